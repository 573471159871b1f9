use Rattle.std.proofs.Common.{◌≡◌, take}
use Rattle.box_answers.specs.Members.{sets_of}
use Rattle.config_box.proofs.split.shared_sets.Given as goal

abbrev pub invariant-loop-set : goal.invariant-loop-set
invariant-loop-set l = sets_of l.copy.items ≡ sets_of (take l.set-index l.sets)
