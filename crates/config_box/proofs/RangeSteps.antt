-- Ranges in order, and what is joined of them.
use Rattle.std.proofs.Common.{◌≡◌, ◌≢◌, ℕ, zero, suc, ◌+◌, ◌<◌, ◌≤◌, inl, inr, arith, List, [], ◌∷◌, ◌++◌, length, get_or, refl, sym, ap, subst, ◌∙◌}
use Rattle.std.specs.List.{All, AllPairs}
use Rattle.std.proofs.lemmas.List.{length_push, get_or_append_left, get_or_at}
use Rattle.std.proofs.lemmas.List.Elements.{All-push}
use Rattle.std.proofs.lemmas.List.Quantifiers.{all_pairs_push}
use Rattle.config_box.specs.config_record.declared.coord.Coord.{Coord}
use Rattle.config_box.proofs.config_record.ChangedNumber.{by_coord}
use Rattle.config_box.specs.box_answers.NumberSet.{SetOf, RangeOf, NumbersOf, LocalesOf, named_numbers}
use Rattle.config_box.specs.box_answers.Members.{set_at}
use Rattle.config_box.specs.Joined.{MakeOneSet, IsJoinedSet, CannotJoin, HasJoinedSets}
use Rattle.config_box.specs.Least.{HasOneSet, IsRange, NoTwoJoin}
use Rattle.config_box.specs.Ranges.{low_at, high_at, AreRanges, AreInOrder, HaveGaps, EndBelow, AreJoinedRanges}

-- ---- lists that end in an element

module _ {X : Type 0} where
  pub All-front : (P : X → Type 0) (xs : List X) (y : X) → All P (xs ++ y ∷ []) → All P xs
  All-front P xs y h k d q = let long = length_push xs y in subst P (get_or_append_left xs (y ∷ []) d k q) (h k d (omega arith))

  pub All-last : (P : X → Type 0) (xs : List X) (y : X) → All P (xs ++ y ∷ []) → P y
  All-last P xs y h = let long = length_push xs y in subst P (get_or_at xs y [] y (length xs) refl) (h (length xs) y (omega arith))

  pub pairs-front : (R : X → X → Type 0) (xs : List X) (y : X) → AllPairs R (xs ++ y ∷ []) → AllPairs R xs
  pairs-front R xs y h i j d lt q =
      let long = length_push xs y in
      subst (λ (a : X). R a (get_or xs j d)) (get_or_append_left xs (y ∷ []) d i (omega arith))
      (subst (λ (b : X). R (get_or (xs ++ y ∷ []) i d) b) (get_or_append_left xs (y ∷ []) d j q) (h i j d lt (omega arith)))

  pub pairs-last : (R : X → X → Type 0) (xs : List X) (y : X) → AllPairs R (xs ++ y ∷ []) → All (λ x. R x y) xs
  pairs-last R xs y h k d q =
      let long = length_push xs y in
      subst (λ (a : X). R a y) (get_or_append_left xs (y ∷ []) d k q)
      (subst (λ (b : X). R (get_or (xs ++ y ∷ []) k d) b) (get_or_at xs y [] d (length xs) refl) (h k (length xs) d q (omega arith)))

-- ---- one pair

-- of two sets of a list's boxes
pub one-set : (k : Coord) (boxes : List (List SetOf)) (i j : ℕ) (d : List SetOf) → HasOneSet k boxes → i < length boxes → j < length boxes → set_at (get_or boxes i d) k ≡ set_at (get_or boxes j d) k
one-set k boxes i j d h p q = h.1 i d p ∙ sym (h.1 j d q)

-- of the first and a later one
pub one-first : (at : Coord) (first other : List SetOf) (others : List (List SetOf)) (i : ℕ) → HasOneSet at (first ∷ others) → i < length others → other ≡ get_or others i other → set_at first at ≡ set_at other at
one-first at first other others i h q is = h.1 0 first (omega arith) ∙ sym (h.1 (suc i) other (omega arith)) ∙ ap (λ (b : List SetOf). set_at b at) (sym is)

pub all-first : (at : Coord) (first : List SetOf) (others : List (List SetOf)) → ((k : ℕ) (d : List SetOf) → k < length others → set_at first at ≡ set_at (get_or others k d) at) → HasOneSet at (first ∷ others)
all-first at first others same = (set_at first at, each)
  where
    each : All (λ b. set_at b at ≡ set_at first at) (first ∷ others)
    each zero d q = refl
    each (suc k) d q = sym (same k d (omega arith))

pub ends-up : (s : SetOf) → IsRange s → get_or (named_numbers s) 0 0 ≤ get_or (named_numbers s) 1 0
ends-up (RangeOf low high) up = up
ends-up (NumbersOf numbers) up = absurd up
ends-up (LocalesOf numbers) up = absurd up

-- with a gap they make no set; without they do
gap-none : (s t : SetOf) → IsRange s → IsRange t → get_or (named_numbers s) 1 0 + 1 < get_or (named_numbers t) 0 0 → MakeOneSet s t → ⊥
gap-none (RangeOf low high) (RangeOf from to) up other gap (inl e) = omega arith
gap-none (RangeOf low high) (RangeOf from to) up other gap (inr e) = omega arith
gap-none (RangeOf low high) (NumbersOf ns) up other gap m = m
gap-none (RangeOf low high) (LocalesOf ns) up other gap m = m
gap-none (NumbersOf ns) t up other gap m = up
gap-none (LocalesOf ns) t up other gap m = up

none-gap : (s t : SetOf) → IsRange s → IsRange t → get_or (named_numbers s) 1 0 < get_or (named_numbers t) 0 0 → (MakeOneSet s t → ⊥) → get_or (named_numbers s) 1 0 + 1 < get_or (named_numbers t) 0 0
none-gap (RangeOf low high) (RangeOf from to) up other behind no_one =
    let far : high + 1 ≢ from = λ e. no_one (inl e) in omega arith
none-gap (RangeOf low high) (NumbersOf ns) up other behind no_one = absurd other
none-gap (RangeOf low high) (LocalesOf ns) up other behind no_one = absurd other
none-gap (NumbersOf ns) t up other behind no_one = absurd up
none-gap (LocalesOf ns) t up other behind no_one = absurd up

-- the ends of the joined range
pub record IsFromTo (s t j : SetOf) : Type 0 where
  pub range : IsRange j
  pub low : get_or (named_numbers j) 0 0 ≡ get_or (named_numbers s) 0 0
  pub high : get_or (named_numbers j) 1 0 ≡ get_or (named_numbers t) 1 0

joined-ends : (s t j : SetOf) → IsRange s → IsRange t → get_or (named_numbers s) 1 0 < get_or (named_numbers t) 0 0 → IsJoinedSet s t j → IsFromTo s t j
joined-ends (RangeOf low high) (RangeOf from to) (RangeOf x y) up other behind joined =
    let rises : x ≤ y = joined.proper.rises in
    let low_in = (joined.numbers low).1 (inl (omega arith, up)) in
    let to_in = (joined.numbers to).1 (inr (other, omega arith)) in
    let first : low ≤ x = elim ((joined.numbers x).0 (omega arith, rises)) [ inl is ↦ omega (arith, is) | inr is ↦ omega (arith, is) ] in
    let last : y ≤ to = elim ((joined.numbers y).0 (rises, omega arith)) [ inl is ↦ omega (arith, is) | inr is ↦ omega (arith, is) ] in
    record { range = rises; low = omega (arith, low_in); high = omega (arith, to_in) }
joined-ends (RangeOf low high) (RangeOf from to) (NumbersOf ns) up other behind joined = absurd joined.mark
joined-ends (RangeOf low high) (RangeOf from to) (LocalesOf ns) up other behind joined = absurd joined.mark
joined-ends (RangeOf low high) (NumbersOf ns) j up other behind joined = absurd other
joined-ends (RangeOf low high) (LocalesOf ns) j up other behind joined = absurd other
joined-ends (NumbersOf ns) t j up other behind joined = absurd up
joined-ends (LocalesOf ns) t j up other behind joined = absurd up

-- ---- a box more

apart-sets : (a b : List SetOf) (c : Coord) → IsRange (set_at b c) → high_at c a < low_at c b → set_at a c ≢ set_at b c
apart-sets a b c up behind e =
    let same = ap (λ (s : SetOf). get_or (named_numbers s) 1 0) e in
    let ends = ends-up (set_at b c) up in
    omega arith

-- the joined box has the joined range, and else the sets of either
pub joined-there : (a b j : List SetOf) (c : Coord) → IsRange (set_at a c) → IsRange (set_at b c) → high_at c a < low_at c b → HasJoinedSets a b j → IsFromTo (set_at a c) (set_at b c) (set_at j c) × ((k : Coord) → k ≢ c → set_at j k ≡ set_at a k)
joined-there a b j c up other behind has =
    by_coord has.0 c
    (λ e. subst (λ (i : Coord). IsFromTo (set_at a c) (set_at b c) (set_at j c) × ((k : Coord) → k ≢ i → set_at j k ≡ set_at a k)) e
    (joined-ends (set_at a c) (set_at b c) (set_at j c) up other behind (subst (λ (i : Coord). IsJoinedSet (set_at a i) (set_at b i) (set_at j i)) e has.1.here), has.1.others))
    (λ ne. absurd (apart-sets a b c other behind (has.1.can.others c (λ e. ne (sym e)))))

pub gap-between : (a b : List SetOf) (c : Coord) → IsRange (set_at a c) → IsRange (set_at b c) → high_at c a < low_at c b → ((k : Coord) → k ≢ c → set_at a k ≡ set_at b k) → CannotJoin a b → high_at c a + 1 < low_at c b
gap-between a b c up other behind alike cannot = none-gap (set_at a c) (set_at b c) up other behind (λ one. cannot c (record { here = one; others = alike }))

pub gap-cannot : (a b : List SetOf) (c : Coord) → IsRange (set_at a c) → IsRange (set_at b c) → high_at c a + 1 < low_at c b → CannotJoin a b
gap-cannot a b c up other gap at can =
    by_coord at c
    (λ e. gap-none (set_at a c) (set_at b c) up other gap (subst (λ (i : Coord). MakeOneSet (set_at a i) (set_at b i)) e can.here))
    (λ ne. apart-sets a b c other (omega arith) (can.others c (λ e. ne (sym e))))

-- ---- a box more

-- it is put behind the others
pub self-joined : (c : Coord) (boxes : List (List SetOf)) → AreRanges c boxes → HaveGaps c boxes → AreJoinedRanges c boxes boxes
self-joined c boxes r gaps = record { alike = λ k ne set h. h; ranges = r.ranges; gaps = gaps; below = λ n h. h }

-- it is put into an empty list
pub first-joined : (c : Coord) (old new : List (List SetOf)) (next : List SetOf) → old ≡ [] → new ≡ old ++ next ∷ [] → AreRanges c (old ++ next ∷ []) → AreJoinedRanges c (old ++ next ∷ []) new
first-joined c old new next gone is r =
    subst (λ (l : List (List SetOf)). AreJoinedRanges c (old ++ next ∷ []) l) (sym is)
    (self-joined c (old ++ next ∷ []) r (subst (λ (l : List (List SetOf)). HaveGaps c (l ++ next ∷ [])) (sym gone) (λ i j d lt q. absurd (omega arith))))

pub put-behind : (c : Coord) (front : List (List SetOf)) (last next : List SetOf) → AreRanges c ((front ++ last ∷ []) ++ next ∷ []) → HaveGaps c (front ++ last ∷ [])
    → EndBelow c (low_at c next) (front ++ last ∷ []) → CannotJoin last next → AreJoinedRanges c ((front ++ last ∷ []) ++ next ∷ []) ((front ++ last ∷ []) ++ next ∷ [])
put-behind c front last next r gaps below cannot =
    let up = All-front (λ b. IsRange (set_at b c)) (front ++ last ∷ []) next r.ranges in
    let up_next : IsRange (set_at next c) = All-last (λ b. IsRange (set_at b c)) (front ++ last ∷ []) next r.ranges in
    let up_last : IsRange (set_at last c) = All-last (λ b. IsRange (set_at b c)) front last up in
    let behind : high_at c last < low_at c next = All-last (λ b. high_at c b < low_at c next) front last below in
    let last_gap : high_at c last + 1 < low_at c next = gap-between last next c up_last up_next behind (alike-last c front last next r) cannot in
    let ends = ends-up (set_at last c) up_last in
    let before = pairs-last (λ a b. high_at c a + 1 < low_at c b) front last gaps in
    let all_gaps : All (λ b. high_at c b + 1 < low_at c next) (front ++ last ∷ []) =
    All-push (λ b. high_at c b + 1 < low_at c next) front last (λ k d q. let one = before k d q in omega arith) last_gap in
    self-joined c ((front ++ last ∷ []) ++ next ∷ []) r (all_pairs_push (λ a b. high_at c a + 1 < low_at c b) (front ++ last ∷ []) next gaps all_gaps)
  where
    alike-last : (c : Coord) (front : List (List SetOf)) (last next : List SetOf) → AreRanges c ((front ++ last ∷ []) ++ next ∷ []) → (k : Coord) → k ≢ c → set_at last k ≡ set_at next k
    alike-last c front last next r k ne =
        let h = r.alike k ne in
        All-last (λ b. set_at b k ≡ h.0) front last (All-front (λ b. set_at b k ≡ h.0) (front ++ last ∷ []) next h.1) ∙ sym (All-last (λ b. set_at b k ≡ h.0) (front ++ last ∷ []) next h.1)

-- it is joined with the last
pub put-joined : (c : Coord) (front : List (List SetOf)) (last next both : List SetOf) → AreRanges c ((front ++ last ∷ []) ++ next ∷ []) → HaveGaps c (front ++ last ∷ [])
    → EndBelow c (low_at c next) (front ++ last ∷ []) → HasJoinedSets last next both → AreJoinedRanges c ((front ++ last ∷ []) ++ next ∷ []) (front ++ both ∷ [])
put-joined c front last next both r gaps below has =
    let up = All-front (λ b. IsRange (set_at b c)) (front ++ last ∷ []) next r.ranges in
    let up_next : IsRange (set_at next c) = All-last (λ b. IsRange (set_at b c)) (front ++ last ∷ []) next r.ranges in
    let up_last : IsRange (set_at last c) = All-last (λ b. IsRange (set_at b c)) front last up in
    let behind : high_at c last < low_at c next = All-last (λ b. high_at c b < low_at c next) front last below in
    let there = joined-there last next both c up_last up_next behind has in
    let same_low = there.0.low in
    let same_high = there.0.high in
    let before = pairs-last (λ a b. high_at c a + 1 < low_at c b) front last gaps in
    record {
      alike = λ k ne set h.
          let first = All-front (λ b. set_at b k ≡ set) (front ++ last ∷ []) next h in
          All-push (λ b. set_at b k ≡ set) front both (All-front (λ b. set_at b k ≡ set) front last first) (there.1 k ne ∙ All-last (λ b. set_at b k ≡ set) front last first);
      ranges = All-push (λ b. IsRange (set_at b c)) front both (All-front (λ b. IsRange (set_at b c)) front last up) there.0.range;
      gaps = all_pairs_push (λ a b. high_at c a + 1 < low_at c b) front both (pairs-front (λ a b. high_at c a + 1 < low_at c b) front last gaps) (λ k d q. let one = before k d q in omega arith);
      below = λ n h.
          let first = All-front (λ b. high_at c b < n) (front ++ last ∷ []) next h in
          let end : high_at c next < n = All-last (λ b. high_at c b < n) (front ++ last ∷ []) next h in
          All-push (λ b. high_at c b < n) front both (All-front (λ b. high_at c b < n) front last first) (omega arith);
    }

-- the same of a list that is so
pub put-behind-at : (c : Coord) (old front new : List (List SetOf)) (last next : List SetOf) → old ≡ front ++ last ∷ [] → new ≡ (front ++ last ∷ []) ++ next ∷ [] → AreRanges c (old ++ next ∷ [])
    → HaveGaps c old → EndBelow c (low_at c next) old → CannotJoin last next → AreJoinedRanges c (old ++ next ∷ []) new
put-behind-at c old front new last next whole is r gaps below cannot =
    subst (λ (l : List (List SetOf)). AreJoinedRanges c (l ++ next ∷ []) new) (sym whole)
    (subst (AreJoinedRanges c ((front ++ last ∷ []) ++ next ∷ [])) (sym is)
    (put-behind c front last next (subst (λ (l : List (List SetOf)). AreRanges c (l ++ next ∷ [])) whole r) (subst (HaveGaps c) whole gaps) (subst (EndBelow c (low_at c next)) whole below) cannot))

pub put-joined-at : (c : Coord) (old front new : List (List SetOf)) (last next both : List SetOf) → old ≡ front ++ last ∷ [] → new ≡ front ++ both ∷ [] → AreRanges c (old ++ next ∷ [])
    → HaveGaps c old → EndBelow c (low_at c next) old → HasJoinedSets last next both → AreJoinedRanges c (old ++ next ∷ []) new
put-joined-at c old front new last next both whole is r gaps below has =
    subst (λ (l : List (List SetOf)). AreJoinedRanges c (l ++ next ∷ []) new) (sym whole)
    (subst (AreJoinedRanges c ((front ++ last ∷ []) ++ next ∷ [])) (sym is)
    (put-joined c front last next both (subst (λ (l : List (List SetOf)). AreRanges c (l ++ next ∷ [])) whole r) (subst (HaveGaps c) whole gaps) (subst (EndBelow c (low_at c next)) whole below) has))

-- ---- all of them, one after the other

pub none-joined : (c : Coord) (old new : List (List SetOf)) → length new ≡ 0 → AreJoinedRanges c old new
none-joined c old new e = record {
  alike = λ k ne set h i d q. absurd (omega arith);
  ranges = λ i d q. absurd (omega arith);
  gaps = λ i j d lt q. absurd (omega arith);
  below = λ n h i d q. absurd (omega arith);
}

-- what is needed of those that are joined so far and the next
pub record CanGoOn (c : Coord) (joined : List (List SetOf)) (next : List SetOf) : Type 0 where
  pub ranges : AreRanges c (joined ++ next ∷ [])
  pub gaps : HaveGaps c joined
  pub below : EndBelow c (low_at c next) joined

pub can-go-on : (c : Coord) (old joined : List (List SetOf)) (next : List SetOf) → AreRanges c (old ++ next ∷ []) → AreInOrder c (old ++ next ∷ []) → AreJoinedRanges c old joined → CanGoOn c joined next
can-go-on c old joined next r order j = record {
  ranges = record {
    alike = λ k ne. let h = r.alike k ne in (
      h.0,
      All-push (λ b. set_at b k ≡ h.0) joined next (j.alike k ne h.0 (All-front (λ b. set_at b k ≡ h.0) old next h.1)) (All-last (λ b. set_at b k ≡ h.0) old next h.1),
    );
    ranges = All-push (λ b. IsRange (set_at b c)) joined next j.ranges (All-last (λ b. IsRange (set_at b c)) old next r.ranges);
  };
  gaps = j.gaps;
  below = j.below (low_at c next) (pairs-last (λ a b. high_at c a < low_at c b) old next order);
}

pub ranges-front : (c : Coord) (xs : List (List SetOf)) (y : List SetOf) → AreRanges c (xs ++ y ∷ []) → AreRanges c xs
ranges-front c xs y r = record {
  alike = λ k ne. let h = r.alike k ne in (h.0, All-front (λ b. set_at b k ≡ h.0) xs y h.1);
  ranges = All-front (λ b. IsRange (set_at b c)) xs y r.ranges;
}

pub order-front : (c : Coord) (xs : List (List SetOf)) (y : List SetOf) → AreInOrder c (xs ++ y ∷ []) → AreInOrder c xs
order-front c xs y order = pairs-front (λ a b. high_at c a < low_at c b) xs y order

pub joined-next : (c : Coord) (old joined new : List (List SetOf)) (next : List SetOf) → AreJoinedRanges c old joined → AreJoinedRanges c (joined ++ next ∷ []) new → AreJoinedRanges c (old ++ next ∷ []) new
joined-next c old joined new next before one = record {
  alike = λ k ne set h. one.alike k ne set (
      All-push (λ b. set_at b k ≡ set) joined next (before.alike k ne set (All-front (λ b. set_at b k ≡ set) old next h)) (All-last (λ b. set_at b k ≡ set) old next h)
      );
  ranges = one.ranges;
  gaps = one.gaps;
  below = λ n h. one.below n (All-push (λ b. high_at c b < n) joined next (before.below n (All-front (λ b. high_at c b < n) old next h)) (All-last (λ b. high_at c b < n) old next h));
}

pub none-of-them-join : (c : Coord) (old new : List (List SetOf)) → AreJoinedRanges c old new → NoTwoJoin new
none-of-them-join c old new j i k d lt q =
    gap-cannot (get_or new i d) (get_or new k d) c (j.ranges i d (omega arith)) (j.ranges k d q) (j.gaps i k d lt q)
