use Rattle.std.proofs.Common.{◌≡◌, ◌++◌, length}
use Rattle.names.specs.Surrogates.{with_pairs}
use Rattle.names.proofs.surrogates.with_pairs.Given as goal

-- what there is, and the bytes that are left, are all
abbrev pub invariant-loop-byte : goal.invariant-loop-byte
invariant-loop-byte l = l.paired.items ++ with_pairs l.left ≡ with_pairs l.bytes

abbrev pub decreases-loop-byte : goal.decreases-loop-byte
decreases-loop-byte l = length l.left
