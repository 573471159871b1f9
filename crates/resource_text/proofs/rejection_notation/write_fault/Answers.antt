use Rattle.std.proofs.Common.{append_assoc}
use Rattle.resource_text.specs.RejectionNotation.{fault_words}
use Rattle.resource_text.proofs.rejection_notation.write_fault.Goals as goal

pub returns : goal.returns
unfolding fault_words
returns g c = simp append_assoc c.writeln.ensures.bytes
