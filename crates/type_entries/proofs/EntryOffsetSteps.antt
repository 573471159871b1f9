-- How the entry offsets of a type are gone through, and how an index is found among them.
use Rattle.std.proofs.Common.{◌≡◌, ◌≢◌, ℕ, zero, suc, ◌+◌, ◌-◌, ◌<◌, ◌≤◌, Bool, true, false, Some, None, refl, sym, ap, ◌∙◌, arith}
use Rattle.std.specs.Prelude.{find, nat_lt, ◌==◌}
use Rattle.std.specs.List.{range_with_len, list_all}
use Rattle.std.proofs.lemmas.Bool.{and_parts}
use Rattle.std.proofs.lemmas.Bool.Decides.{nat_tests}
use Rattle.res_value.proofs.MapRowsSteps.{find-found, find-next, find-end}
use Rattle.type_entries.specs.TypeChunk.{TypeChunkOf}
use Rattle.type_entries.specs.EntryOffsets.{index_of, rises_at, indexes_rise, position_of}

-- ---- whether the indexes rise

module _ (p : ℕ → Bool) where
  all-stops : (i n : ℕ) → i < n → p i ≡ false → list_all p (range_with_len i (n - i)) ≡ false
  all-stops i n below e = let left : n - i ≡ suc (n - (i + 1)) = omega arith in rw (left, e) refl

  all-next : (i n : ℕ) → i < n → p i ≡ true → list_all p (range_with_len i (n - i)) ≡ list_all p (range_with_len (i + 1) (n - (i + 1)))
  all-next i n below e = let left : n - i ≡ suc (n - (i + 1)) = omega arith in rw (left, e) refl

  all-end : (i n : ℕ) → n ≤ i → list_all p (range_with_len i (n - i)) ≡ true
  all-end i n past = let left : n - i ≡ 0 = omega arith in rw left refl

  all-at : (n i k : ℕ) → list_all p (range_with_len i n) ≡ true → k < n → p (i + k) ≡ true
  all-at zero i k all below = absurd (omega arith)
  all-at (suc n) i zero all below = let here : i + 0 ≡ i = omega arith in rw here ((and_parts (p i) (list_all p (range_with_len (i + 1) n)) all).0)
  all-at (suc n) i (suc k) all below =
      let there : i + suc k ≡ i + 1 + k = omega arith in
      rw there (all-at n (i + 1) k ((and_parts (p i) (list_all p (range_with_len (i + 1) n)) all).1) (omega arith))

  all-from : (n i : ℕ) → ((k : ℕ) → i ≤ k → k < i + n → p k ≡ true) → list_all p (range_with_len i n) ≡ true
  all-from zero i each = refl
  all-from (suc n) i each = rw (each i (omega arith) (omega arith)) (all-from n (i + 1) (λ k above below. each k (omega arith) (omega arith)))

module _ (chunk : TypeChunkOf) where
  -- the pairs of neighbours from a position on
  abbrev pub rise_from : ℕ → Bool
  rise_from position = list_all (rises_at chunk) (range_with_len position ((chunk.offset_count - 1) - position))

  pub rise-all : indexes_rise chunk ≡ rise_from 0
  unfolding indexes_rise
  rise-all = let all : chunk.offset_count - 1 - 0 ≡ chunk.offset_count - 1 = omega arith in rw all refl

  pub rise-stops : (position : ℕ) → position < chunk.offset_count - 1 → index_of chunk (position + 1) ≤ index_of chunk position → rise_from position ≡ false
  unfolding rises_at
  rise-stops position within falls = all-stops (rises_at chunk) position (chunk.offset_count - 1) within (grind (arith, nat_tests))

  pub rise-next : (position : ℕ) → position < chunk.offset_count - 1 → index_of chunk position < index_of chunk (position + 1) → rise_from position ≡ rise_from (position + 1)
  unfolding rises_at
  rise-next position within rises = all-next (rises_at chunk) position (chunk.offset_count - 1) within (grind (arith, nat_tests))

  pub rise-end : (position : ℕ) → chunk.offset_count - 1 ≤ position → rise_from position ≡ true
  rise-end position past = all-end (rises_at chunk) position (chunk.offset_count - 1) past

  -- in a type that is not sparse each index has its position
  pub index_of-each : (position : ℕ) → chunk.is_sparse ≡ false → index_of chunk position ≡ position
  unfolding index_of
  index_of-each position each = rw each refl

  pub rise-each : chunk.is_sparse ≡ false → indexes_rise chunk ≡ true
  unfolding indexes_rise rises_at
  rise-each each = all-from (rises_at chunk) (chunk.offset_count - 1) 0 (λ position above below. grind (arith, nat_tests, index_of-each position each, index_of-each (position + 1) each))

  module _ (rise : indexes_rise chunk ≡ true) where
    next-rises : (position : ℕ) → position + 1 < chunk.offset_count → index_of chunk position < index_of chunk (position + 1)
    unfolding indexes_rise rises_at
    next-rises position within =
        let here : 0 + position ≡ position = omega arith in
        let test : rises_at chunk position ≡ true = ap (λ (n : ℕ). rises_at chunk n) (sym here) ∙ all-at (rises_at chunk) (chunk.offset_count - 1) 0 position rise (omega arith) in
        grind (arith, nat_tests, test)

    later-rises : (distance position : ℕ) → position + (distance + 1) < chunk.offset_count → index_of chunk position < index_of chunk (position + (distance + 1))
    later-rises zero position within = next-rises position (omega arith)
    later-rises (suc distance) position within =
        let first = later-rises distance position (omega arith) in
        let last = next-rises (position + (distance + 1)) (omega arith) in
        let there : position + (distance + 1) + 1 ≡ position + (suc distance + 1) = omega arith in
        let last : index_of chunk (position + (distance + 1)) < index_of chunk (position + (suc distance + 1)) = rw (sym there) last in
        omega (arith, first, last)

    pub later-greater : (position later : ℕ) → position < later → later < chunk.offset_count → index_of chunk position < index_of chunk later
    later-greater position later before within =
        let there : position + (later - position - 1 + 1) ≡ later = omega arith in
        let rises = later-rises (later - position - 1) position (omega arith) in
        rw (sym there) rises

    -- what is smaller or greater at one position is so before or behind it
    pub smaller-before : (index middle : ℕ) → middle < chunk.offset_count → index_of chunk middle < index → (position : ℕ) → position < middle + 1 → index_of chunk position < index
    smaller-before index middle within smaller position before = by (nat_lt position middle) refl
      where
        by : (b : Bool) → nat_lt position middle ≡ b → index_of chunk position < index
        by true e = let earlier = later-greater position middle (grind (arith, nat_tests)) within in omega (arith, earlier, smaller)
        by false e = let same : middle ≡ position = grind (arith, nat_tests) in rw (sym same) smaller

    pub greater-behind : (index middle : ℕ) → index < index_of chunk middle → (position : ℕ) → middle ≤ position → position < chunk.offset_count → index < index_of chunk position
    greater-behind index middle greater position behind within = by (nat_lt middle position) refl
      where
        by : (b : Bool) → nat_lt middle position ≡ b → index < index_of chunk position
        by true e = let later = later-greater middle position (grind (arith, nat_tests)) within in omega (arith, later, greater)
        by false e = let same : middle ≡ position = grind (arith, nat_tests) in rw (sym same) greater

-- ---- the position of an index

module _ (p : ℕ → Bool) where
  find-skips : (i n : ℕ) → i ≤ n → ((j : ℕ) → j < i → p j ≡ false) → find p (range_with_len 0 n) ≡ find p (range_with_len i (n - i))
  find-skips zero n within none = let all : n - 0 ≡ n = omega arith in rw all refl
  find-skips (suc i) n within none =
      let more : i + 1 ≡ suc i = omega arith in
      find-skips i n (omega arith) (λ j below. none j (omega arith)) ∙ find-next p i n (omega arith) (none i (omega arith)) ∙ ap (λ (k : ℕ). find p (range_with_len k (n - k))) more

module _ (chunk : TypeChunkOf) (index : ℕ) where
  other_index : (position : ℕ) → index_of chunk position ≢ index → (index_of chunk position == index) ≡ false
  other_index position other = grind (arith, nat_tests)

  pub position_of-none : ((position : ℕ) → position < chunk.offset_count → index_of chunk position ≢ index) → position_of chunk index ≡ None
  unfolding position_of
  position_of-none others =
      find-skips (λ position. index_of chunk position == index) chunk.offset_count chunk.offset_count (omega arith) (λ position below. other_index position (others position below))
      ∙ find-end (λ position. index_of chunk position == index) chunk.offset_count chunk.offset_count (omega arith)

  -- none is left between those with smaller indexes and those with greater ones
  pub position_of-between : (from behind : ℕ) → behind ≤ from → ((position : ℕ) → position < from → index_of chunk position < index)
      → ((position : ℕ) → behind ≤ position → position < chunk.offset_count → index < index_of chunk position) → position_of chunk index ≡ None
  position_of-between from behind met smaller greater = position_of-none (λ position within. by position within (nat_lt position from) refl)
    where
      by : (position : ℕ) → position < chunk.offset_count → (b : Bool) → nat_lt position from ≡ b → index_of chunk position ≢ index
      by position within true e = λ is. omega (arith, is, smaller position (grind (arith, nat_tests)))
      by position within false e = let past : from ≤ position = grind (arith, nat_tests) in λ is. omega (arith, is, greater position (omega (arith, past, met)) within)

  pub position_of-found : (position : ℕ) → indexes_rise chunk ≡ true → position < chunk.offset_count → index_of chunk position ≡ index → position_of chunk index ≡ Some position
  unfolding position_of
  position_of-found position rise within is =
      find-skips (λ position. index_of chunk position == index) position chunk.offset_count (omega arith) (λ before below. other_index before (λ e. omega (arith, e, is, later-greater chunk rise before position below within)))
      ∙ find-found (λ position. index_of chunk position == index) position chunk.offset_count within (grind (arith, nat_tests))

pub ruleset rise_steps = (rise-all, rise-stops, rise-next, rise-end, rise-each)
