use Rattle.std.proofs.Common.{arith, subst}
use Rattle.std.specs.List.{All}
use Rattle.std.proofs.lemmas.List.{take_all}
use Rattle.std.proofs.lemmas.List.Elements.{All-more}
use Rattle.cert_maker.specs.box_answers.Members.{SomeMember}
use Rattle.stack_diff.proofs.change.have_devices.Goals as goal

pub loop-part-preserved : goal.loop-part-preserved
loop-part-preserved c = record {
  so_far = All-more SomeMember c.args.boxes.now c.loop-part.part-index c.part-item.result c.loop-part-test.true c.loop-part.invariant.so_far (subst SomeMember c.part-item.is c.is_never_empty.ensures);
}

pub returns : goal.returns
returns c = subst (All SomeMember) (take_all c.loop-part.part-index c.args.boxes.now (omega arith)) c.loop-part.invariant.so_far
