use Rattle.std.proofs.Common.{◌≡◌, ℕ, ◌+◌, ◌-◌, length}
use Rattle.overlay_map.specs.Heads.{head_of_parts}
use Rattle.overlay_map.proofs.heads.Heads.make_package.Given as goal

-- what was added has no heads
abbrev pub invariant-loop-alloc : goal.invariant-loop-alloc
invariant-loop-alloc l = (package_id type_id entry : ℕ) → head_of_parts l.self package_id type_id entry ≡ head_of_parts l.fn.self package_id type_id entry

abbrev pub decreases-loop-alloc : goal.decreases-loop-alloc
decreases-loop-alloc l = l.package_id + 1 - length l.self.by_package.items
