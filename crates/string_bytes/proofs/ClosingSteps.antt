-- The bytes that a zero closes, by the steps in which they are read.
use Rattle.std.proofs.Common.{◌≡◌, ℕ, ◌≤◌, List, length, take, drop, Some, Ok, Err, arith}
use Rattle.std.proofs.lemmas.Grind.{common_steps}
use Rattle.std.specs.List.{slice_get}
use Rattle.chunk_walk.specs.Number.{number}
use Rattle.string_bytes.specs.declared.fault.StringFault.TheVariants.{NotEnded}
use Rattle.string_bytes.specs.Bytes.{FrontOf, front_in, closed_in}

pub closed_ended : (count : FrontOf) (part behind : List ℕ) (closing : ℕ) → part ≡ take count.number count.behind → behind ≡ drop count.number count.behind
    → count.number ≤ length count.behind → slice_get behind 0 ≡ Some closing → closing ≡ 0 → Ok part ≡ closed_in 1 count
unfolding closed_in front_in number
closed_ended count part behind closing front back enough first zero = grind (arith, common_steps)

pub closed_open : (count : FrontOf) (behind : List ℕ) (closing : ℕ) → behind ≡ drop count.number count.behind
    → count.number ≤ length count.behind → slice_get behind 0 ≡ Some closing → (closing ≡ 0 → ⊥) → Err NotEnded ≡ closed_in 1 count
unfolding closed_in front_in number
closed_open count behind closing back enough first other = grind (arith, common_steps)
