use Rattle.std.proofs.Common.{◌≡◌, ℕ, ◌<◌, List, get_or}
use Rattle.config_box.specs.box_answers.NumberSet.{SetOf}
use Rattle.config_box.specs.box_answers.Members.{set_at}
use Rattle.config_box.proofs.joined_boxes.vary.Given as goal

abbrev pub invariant-loop-other : goal.invariant-loop-other
invariant-loop-other l = (k : ℕ) (d : List SetOf) → k < l.other-index → set_at l.first l.at ≡ set_at (get_or l.others k d) l.at
