use Rattle.std.proofs.Common.{◌≡◌, ◌++◌, map}
use Rattle.overlay_map.specs.IdMap.{targets_in}
use Rattle.overlay_map.proofs.id_map.IdMap.targets.Given as goal

-- the targets so far, and those that are left
abbrev pub invariant-loop-target : goal.invariant-loop-target
invariant-loop-target l = record {
  can : (goal.iterator-loop-target).can_next l.target-iterator;
  ends : (goal.iterator-loop-target).is_finite l.target-iterator;
  left : map (λ target. target.0) l.targets.items ++ map (λ target. target.0) l.target-iterator ≡ targets_in l.self;
}
