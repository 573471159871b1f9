use Rattle.std.proofs.Common.{drop}
use Rattle.command_base.specs.overlay_map.IdMap.{pairs_of}
use Rattle.command_base.specs.NamedTarget.{pair_with}
use Rattle.command_base.proofs.LoopSteps.{GivesAllBut}
use Rattle.command_base.proofs.NamedSteps.{both_of}
use Rattle.command_base.proofs.pairs.found_pairs.Given as goal

-- the pairs of all targets were made but of those that are left
abbrev pub invariant-loop-place : goal.invariant-loop-place
invariant-loop-place l = GivesAllBut pair_with (pairs_of l.pairs.items) (both_of l.targets l.found) (drop l.place (both_of l.targets l.found))
