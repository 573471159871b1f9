-- What counts of wrong rows say.
use Rattle.std.proofs.Common.{◌≡◌, ℕ, zero, suc, ◌+◌, ◌-◌, ◌*◌, ◌<◌, ◌≤◌, Bool, true, false, List, [], ◌∷◌, ◌++◌, length, length-append, get_or, drop, None, refl, sym, ◌∙◌, arith}
use Rattle.std.specs.Prelude.{IsOk, find, nat_lt, if◌then◌else◌}
use Rattle.std.specs.List.{range_with_len}
use Rattle.std.proofs.lemmas.Bool.Decides.{nat_tests}
use Rattle.std.proofs.lemmas.List.{drop-drop, get_or_append_left, get_or-append_right, get_or_push}
use Rattle.res_value.specs.MapRows.{map_rows_in, has_wrong_size}
use Rattle.type_entries.specs.WrongSizes.{is_wrong, CountWrong}

-- ---- one count more

pub CountWrong-next : (whole counts : List ℕ) (count : ℕ) → CountWrong whole counts → ((place : ℕ) → place + 12 ≡ length counts → count ≡ get_or counts place 0 + (if is_wrong whole place then 1 else 0))
    → CountWrong whole (counts ++ count ∷ [])
CountWrong-next whole counts count so_far next place within = by (nat_lt (place + 12) (length counts)) refl
  where
    long : length (counts ++ count ∷ []) ≡ length counts + 1
    long = length-append counts (count ∷ [])

    by : (before : Bool) → nat_lt (place + 12) (length counts) ≡ before → get_or (counts ++ count ∷ []) (place + 12) 0 ≡ get_or (counts ++ count ∷ []) place 0 + (if is_wrong whole place then 1 else 0)
    by true e =
        let below : place + 12 < length counts = grind (arith, nat_tests) in
        rw (get_or_append_left counts (count ∷ []) 0 (place + 12) below, get_or_append_left counts (count ∷ []) 0 place (omega (arith, below))) (so_far place below)
    by false e =
        let here : place + 12 ≡ length counts = grind (arith, nat_tests, long, within) in
        rw (get_or_push counts count 0 (place + 12) (sym here), get_or_append_left counts (count ∷ []) 0 place (omega (arith, here))) (next place here)

pub few-next : (counts : List ℕ) (count : ℕ) → ((place : ℕ) → get_or counts place 0 ≤ place) → count ≤ length counts → (place : ℕ) → get_or (counts ++ count ∷ []) place 0 ≤ place
few-next [] count few low zero = omega (arith, low)
few-next [] count few low (suc place) = omega arith
few-next (first ∷ counts) count few low place = by (nat_lt place (length (first ∷ counts))) refl
  where
    last : (n : ℕ) → count ≤ place → get_or (count ∷ []) n 0 ≤ place
    last zero low = low
    last (suc n) low = omega arith

    by : (before : Bool) → nat_lt place (length (first ∷ counts)) ≡ before → get_or ((first ∷ counts) ++ count ∷ []) place 0 ≤ place
    by true e =
        let below : place < length (first ∷ counts) = grind (arith, nat_tests) in
        rw (get_or_append_left (first ∷ counts) (count ∷ []) 0 place below) (few place)
    by false e =
        let past : length (first ∷ counts) ≤ place = grind (arith, nat_tests) in
        rw (get_or-append_right (first ∷ counts) (count ∷ []) (length (first ∷ counts)) place 0 refl past) (last (place - length (first ∷ counts)) (omega (arith, low, past)))

-- ---- what equal counts say

module _ (whole counts : List ℕ) (counted : CountWrong whole counts) where
  abbrev at : ℕ → ℕ
  at place = get_or counts place 0

  rising : (n place : ℕ) → place + 12 * n < length counts → at place ≤ at (place + 12 * n)
  rising zero place within = let same : place + 12 * 0 ≡ place = omega arith in rw same (omega arith)
  rising (suc n) place within =
      let same : place + 12 * suc n ≡ place + 12 + 12 * n = omega arith in
      let step = counted place (omega (arith, within)) in
      let others = rising n (place + 12) (omega (arith, within)) in
      rw same (omega (arith, step, others))

  one-right : (place : ℕ) → place + 12 < length counts → at (place + 12) ≤ at place → is_wrong whole place ≡ false
  one-right place within low = by (is_wrong whole place) refl
    where
      by : (wrong : Bool) → is_wrong whole place ≡ wrong → wrong ≡ false
      by true e = absurd (omega (arith, low, rw e at (counted place within)))
      by false e = refl

  all-right : (place n k : ℕ) → place + 12 * n < length counts → at place ≡ at (place + 12 * n) → k < n → is_wrong whole (place + 12 * k) ≡ false
  all-right place n k within equal below =
      let before = rising k place (omega (arith, within)) in
      let rest : place + 12 * n ≡ place + 12 * k + 12 + 12 * (n - (k + 1)) = omega arith in
      let behind = rising (n - (k + 1)) (place + 12 * k + 12) (omega (arith, within, rest)) in
      one-right (place + 12 * k) (omega (arith, within)) (omega (arith, before, rw (sym rest) at behind, equal))

  same-row : (place k : ℕ) → has_wrong_size (drop place whole) k ≡ is_wrong whole (place + 12 * k)
  unfolding has_wrong_size is_wrong
  same-row place k =
      let there : place + (12 * k + 4) ≡ place + 12 * k + 4 = omega arith in
      rw (drop-drop (12 * k + 4) place whole, drop-drop 4 (place + 12 * k) whole, there) refl

  find-none : (p : ℕ → Bool) (n s : ℕ) → ((k : ℕ) → s ≤ k → k < s + n → p k ≡ false) → find p (range_with_len s n) ≡ None
  find-none p zero s none = refl
  find-none p (suc n) s none =
      let first = none s (omega arith) (omega arith) in
      rw first (find-none p n (s + 1) (λ k above below. none k (omega arith) (omega arith)))

  pub rows-known : (place count : ℕ) → 12 * count ≤ length (drop place whole) → place + 12 * count < length counts → at place ≡ at (place + 12 * count) → IsOk (map_rows_in count (drop place whole))
  unfolding map_rows_in
  rows-known place count fits within equal =
      let long : nat_lt (length (drop place whole)) (12 * count) ≡ false = grind (arith, nat_tests) in
      let right = find-none (has_wrong_size (drop place whole)) count 0 (λ k above below. same-row place k ∙ all-right place count k within equal (omega arith)) in
      rw (long, right) refl
