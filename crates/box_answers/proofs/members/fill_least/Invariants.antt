use Rattle.std.proofs.Common.{◌<◌}
use Rattle.config_precedence.specs.config_record.declared.coord.Coord.{Coord}
use Rattle.config_precedence.specs.config_record.Coord.{place_of, number_at}
use Rattle.box_answers.specs.NumberSet.{IsLeastIn}
use Rattle.box_answers.specs.Members.{sets_of, set_at}
use Rattle.box_answers.proofs.members.fill_least.Given as goal

abbrev pub invariant-loop-coord : goal.invariant-loop-coord
invariant-loop-coord l = (c : Coord) → place_of c < l.coord-index → IsLeastIn (set_at (sets_of l.sets) c) (number_at l.numbers c)
