use Rattle.std.proofs.Common.{refl}
use Rattle.resource_tool.specs.BagOutput.{no_bag_json_line}
use Rattle.resource_tool.proofs.no_bag.print_no_bag_json.Goals as goal
use Rattle.resource_tool.proofs.no_bag.print_no_bag_json.Goals.{in-Absent, in-Plain, in-BagDepth}

pub returns-clause-printed : goal.returns-clause-printed
unfolding no_bag_json_line
returns-clause-printed g c = λ other.
    elim c.match-fault.branch [
      | in-Absent w ↦ rw w.in-Absent.is (_, refl, rw w.line-is at c.in_ok-write_all.ensures.bytes)
      | in-Plain w ↦ rw w.in-Plain.is (_, refl, rw w.line-is at c.in_ok-write_all.ensures.bytes)
      | in-BagDepth w ↦ rw w.in-BagDepth.is (_, refl, rw w.line-is at c.in_ok-write_all.ensures.bytes)
    ]
