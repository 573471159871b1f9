use Rattle.std.proofs.Common.{take}
use Rattle.overlay_map.specs.ContentKeys.{HoldsIds}
use Rattle.overlay_map.specs.IdMap.{targets_of}
use Rattle.overlay_map.proofs.checked_pairs.keys_of_targets.Given as goal

-- the targets so far were taken
abbrev pub invariant-loop-target : goal.invariant-loop-target
invariant-loop-target l = HoldsIds l.contents (targets_of (take l.target-index l.list))
