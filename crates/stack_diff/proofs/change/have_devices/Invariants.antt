use Rattle.std.proofs.Common.{take}
use Rattle.std.specs.List.{All}
use Rattle.cert_maker.specs.box_answers.Members.{SomeMember}
use Rattle.stack_diff.proofs.change.have_devices.Given as goal

abbrev pub invariant-loop-part : goal.invariant-loop-part
invariant-loop-part l = record { so_far : All SomeMember (take l.part-index l.boxes) }
