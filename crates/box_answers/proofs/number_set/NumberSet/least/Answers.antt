use Rattle.box_answers.specs.NumberSet.{set_of}
use Rattle.box_answers.proofs.Sets.{least-of}
use Rattle.box_answers.proofs.number_set.NumberSet.least.Goals as goal

pub returns : goal.returns
returns c = rw c.named_number.ensures (least-of (set_of c.args.self.now) c.requires)
