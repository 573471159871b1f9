use Rattle.box_answers.specs.NumberSet.{set_of}
use Rattle.box_answers.proofs.Sets.{greatest-of}
use Rattle.box_answers.proofs.number_set.NumberSet.greatest.Goals as goal

pub returns : goal.returns
returns c = rw (c.named_number.ensures, c.named_count.ensures) (greatest-of (set_of c.args.self.now) c.requires)
