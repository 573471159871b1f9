use Rattle.std.proofs.Common.{◌≡◌, ℕ, ◌+◌, ◌-◌, length}
use Rattle.overlay_map.specs.Heads.{head_of_type}
use Rattle.overlay_map.proofs.heads.TypeHeads.make_type.Given as goal

-- what was added has no heads
abbrev pub invariant-loop-alloc : goal.invariant-loop-alloc
invariant-loop-alloc l = (other entry : ℕ) → head_of_type l.self other entry ≡ head_of_type l.fn.self other entry

abbrev pub decreases-loop-alloc : goal.decreases-loop-alloc
decreases-loop-alloc l = l.type_id + 1 - length l.self.by_type.items
