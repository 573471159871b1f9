use Rattle.box_answers.proofs.Sets.{set_count}
use Rattle.box_answers.proofs.neighbours.nearest.Goals as goal

pub set_at-requires : goal.set_at-requires
set_at-requires c = set_count c.args.sets.now c.requires.sets
