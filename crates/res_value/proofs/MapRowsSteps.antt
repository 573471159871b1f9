-- How the rows of a bag go on.
use Rattle.std.proofs.Common.{◌≡◌, ℕ, zero, suc, ◌+◌, ◌-◌, ◌<◌, ◌≤◌, Bool, true, false, List, [], ◌∷◌, length, drop, Some, None, refl, arith}
use Rattle.std.specs.Prelude.{find}
use Rattle.std.specs.List.{range_with_len}
use Rattle.chunk_walk.specs.Number.{number}
use Rattle.res_value.specs.Value.{value_at}
use Rattle.res_value.specs.MapRows.{map_rows_at}

pub map_rows_at-none : (bytes : List ℕ) → map_rows_at 0 bytes ≡ []
unfolding map_rows_at
map_rows_at-none bytes = refl

pub map_rows_at-next : (count : ℕ) (bytes : List ℕ) → 0 < count
    → map_rows_at count bytes ≡ (record { 0 = number 4 bytes 0 }, value_at (drop 4 bytes)) ∷ map_rows_at (count - 1) (drop 12 bytes)
unfolding map_rows_at
map_rows_at-next zero bytes some = absurd (omega arith)
map_rows_at-next (suc n) bytes some =
    let same : suc n - 1 ≡ n = omega arith in rw same refl

pub length-map_rows_at : (count : ℕ) (bytes : List ℕ) → length (map_rows_at count bytes) ≡ count
unfolding map_rows_at
length-map_rows_at zero bytes = refl
length-map_rows_at (suc n) bytes = omega (arith, length-map_rows_at n (drop 12 bytes))

pub ruleset map_rows_steps = (map_rows_at-none, map_rows_at-next, length-map_rows_at)

-- ---- a search by number

pub find-found : (p : ℕ → Bool) (i n : ℕ) → i < n → p i ≡ true → find p (range_with_len i (n - i)) ≡ Some i
find-found p i n lt e =
    let k : n - i ≡ suc (n - (i + 1)) = omega arith in rw (k, e) refl

pub find-next : (p : ℕ → Bool) (i n : ℕ) → i < n → p i ≡ false → find p (range_with_len i (n - i)) ≡ find p (range_with_len (i + 1) (n - (i + 1)))
find-next p i n lt e =
    let k : n - i ≡ suc (n - (i + 1)) = omega arith in rw (k, e) refl

pub find-end : (p : ℕ → Bool) (i n : ℕ) → n ≤ i → find p (range_with_len i (n - i)) ≡ None
find-end p i n le = let k : n - i ≡ 0 = omega arith in rw k refl

pub ruleset search_steps = (find-found, find-next, find-end)
