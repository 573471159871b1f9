use Rattle.std.proofs.Common.{map}
use Rattle.json_input.proofs.EachSteps.{EachAllBut}
use Rattle.box_answers.specs.Members.{sets_of}
use Rattle.config_box.specs.BoxJson.{set_in}
use Rattle.config_box.specs.BoxSeen.{pair_seen}
use Rattle.config_box.proofs.ReadSteps.{SetsSoFar}
use Rattle.config_box.proofs.read.sets_of_each.Given as goal

abbrev pub invariant-loop-coord : goal.invariant-loop-coord
invariant-loop-coord l = record {
  read : EachAllBut (set_in l.rule) (sets_of l.sets.items) l.coord-index (map pair_seen l.written);
  sets : SetsSoFar l.rule l.sets.items l.coord-index;
}
