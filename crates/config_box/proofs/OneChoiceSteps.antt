-- Choices that are joined to one.
use Rattle.std.proofs.Common.{◌≡◌, ◌≢◌, ℕ, ◌+◌, ◌<◌, ◌≤◌, ◌⊎◌, inl, inr, arith, List, [], ◌∷◌, ◌++◌, length, get_or, eqb, eq-eqb, eqb-true, length-append, sym, ap, subst, ◌∙◌}
use Rattle.std.specs.Prelude.{Contains}
use Rattle.std.specs.List.{sum_by}
use Rattle.std.specs.List.Sorted.{IsPermutation, IsStrictlyIncreasing}
use Rattle.std.proofs.lemmas.Bool.{cases_lt}
use Rattle.std.proofs.lemmas.Bool.Decides.{Decides-eqb}
use Rattle.std.proofs.lemmas.Cmp.{nat_eq_equiv}
use Rattle.std.proofs.lemmas.List.{length_push}
use Rattle.std.proofs.lemmas.List.Elements.{All-push, Contains-get_or, Contains-append_left, Contains-append_right}
use Rattle.std.proofs.lemmas.List.Folds.{list_any_at}
use Rattle.std.proofs.lemmas.List.Kept.{AllPairs-from_increasing}
use Rattle.std.proofs.lemmas.List.Sums.{sum_by-append, sum_by-cons}
use Rattle.std.proofs.lemmas.List.Sorted.{All-permutation, sum_by-IsPermutation}
use Rattle.std.proofs.lemmas.Map.Made.{IsDistinct-from_AllPairs, length-le_from_is_member}
use Rattle.std.proofs.lemmas.Map.Views.{Contains-from_any}
use Rattle.config_box.specs.config_record.declared.coord.Coord.{Coord}
use Rattle.config_box.specs.config_record.declared.coord.Coord.TheVariants as coords
use Rattle.config_box.proofs.config_record.ChangedNumber.{by_coord}
use Rattle.config_box.proofs.box_answers.SomeMember.{some_member}
use Rattle.config_box.specs.config_record.ComparedNumber.{device_number}
use Rattle.config_box.specs.box_answers.NumberSet.{SetOf, RangeOf, NumbersOf, LocalesOf, IsIn, IsProper, named_numbers}
use Rattle.config_box.specs.box_answers.Members.{set_at, IsMember, IsOfKind, IsBox}
use Rattle.config_box.specs.Marks.{AreMarkedAlike}
use Rattle.config_box.specs.Joined.{AreApart, MakeOneSet, IsJoinedSet, CannotJoin, IsJoined, HasJoinedSets}
use Rattle.config_box.specs.Counts.{counted, box_count, HaveSameCounts}
use Rattle.config_box.specs.Least.{HasOneSet, IsChoice, DifferByChoices, value_count}
use Rattle.config_box.specs.OneChoice.{AreChoices, IsOneChoice}
use Rattle.config_box.proofs.CountSteps.{counted-member, count-cons, same-behind}
use Rattle.config_box.proofs.RangeSteps.{All-front, All-last, one-set}
use Rattle.config_box.proofs.SortSteps.{shared-device, at_most_once, no-number-shared}

-- ---- the values of two

-- numbers that rise, each of them in one of two lists, are no more than both have
count-le : (xs ns ms : List ℕ) → IsStrictlyIncreasing xs → ((n : ℕ) → Contains xs n → Contains ns n ⊎ Contains ms n) → length xs ≤ length ns + length ms
count-le xs ns ms rises each =
    let distinct = IsDistinct-from_AllPairs Decides-eqb xs (λ i j d lt q e. let less = AllPairs-from_increasing xs rises i j d lt q in absurd (omega arith)) in
    let le : length xs ≤ length (ns ++ ms) = length-le_from_is_member nat_eq_equiv xs (ns ++ ms) distinct (λ q e.
    let there : Contains (ns ++ ms) q = elim (each q (Contains-from_any {eq = eqb} eqb-true q xs e)) [
      | inl first ↦ Contains-append_left ns ms q first
      | inr second ↦ Contains-append_right ns ms q second
    ] in
    list_any_at (eqb q) (ns ++ ms) there.0 q there.1 (eq-eqb q (get_or (ns ++ ms) there.0 q) (sym there.2))) in
    omega (arith, length-append ns ms)

value-le : (s t j : SetOf) → IsChoice s → IsChoice t → IsJoinedSet s t j → length (named_numbers j) ≤ length (named_numbers s) + length (named_numbers t)
value-le (NumbersOf ns) (NumbersOf ms) (NumbersOf js) a b joined = count-le js ns ms joined.proper.rises (λ n c. (joined.numbers n).0 c)
value-le (NumbersOf ns) (LocalesOf ms) (NumbersOf js) a b joined = count-le js ns ms joined.proper.rises (λ n c. (joined.numbers n).0 c)
value-le (LocalesOf ns) (NumbersOf ms) (LocalesOf js) a b joined = count-le js ns ms joined.proper.rises (λ n c. (joined.numbers n).0 c)
value-le (LocalesOf ns) (LocalesOf ms) (LocalesOf js) a b joined = count-le js ns ms joined.proper.rises (λ n c. (joined.numbers n).0 c)
value-le (NumbersOf ns) t (RangeOf low high) a b joined = absurd joined.mark
value-le (NumbersOf ns) t (LocalesOf js) a b joined = absurd joined.mark
value-le (LocalesOf ns) t (RangeOf low high) a b joined = absurd joined.mark
value-le (LocalesOf ns) t (NumbersOf js) a b joined = absurd joined.mark
value-le (RangeOf low high) t j a b joined = absurd a
value-le s (RangeOf low high) j a b joined = absurd b

pub mark-choice : (s j : SetOf) → AreMarkedAlike s j → IsChoice s → IsChoice j
mark-choice (NumbersOf ns) (NumbersOf js) m a = tt
mark-choice (LocalesOf ns) (LocalesOf js) m a = tt
mark-choice (NumbersOf ns) (RangeOf low high) m a = m
mark-choice (NumbersOf ns) (LocalesOf js) m a = tt
mark-choice (LocalesOf ns) (RangeOf low high) m a = m
mark-choice (LocalesOf ns) (NumbersOf js) m a = tt
mark-choice (RangeOf low high) j m a = absurd a

-- of one coordinate both are numbers, or locales
kinds-differ : (c : Coord) (ns ms : List ℕ) → IsOfKind c (NumbersOf ns) → IsOfKind c (LocalesOf ms) → ⊥
kinds-differ coords.Locale ns ms h g = h
kinds-differ c ns ms h g = g

choices-one : (c : Coord) (s t : SetOf) → IsOfKind c s → IsOfKind c t → IsChoice s → IsChoice t → AreApart s t → length (named_numbers s) + length (named_numbers t) ≤ 512 → MakeOneSet s t
choices-one c (NumbersOf ns) (NumbersOf ms) h g a b apart few = (apart, few)
choices-one c (LocalesOf ns) (LocalesOf ms) h g a b apart few = (apart, few)
choices-one c (NumbersOf ns) (LocalesOf ms) h g a b apart few = absurd (kinds-differ c ns ms h g)
choices-one c (LocalesOf ns) (NumbersOf ms) h g a b apart few = absurd (kinds-differ c ms ns g h)
choices-one c (RangeOf low high) t h g a b apart few = absurd a
choices-one c (NumbersOf ns) (RangeOf low high) h g a b apart few = absurd b
choices-one c (LocalesOf ns) (RangeOf low high) h g a b apart few = absurd b

-- ---- the last two boxes

-- counts of what stands at the end
values-push : (c : Coord) (xs : List (List SetOf)) (y : List SetOf) → value_count c (xs ++ y ∷ []) ≡ value_count c xs + length (named_numbers (set_at y c))
values-push c xs y =
    let f : List SetOf → ℕ = λ b. length (named_numbers (set_at b c)) in
    let both = sum_by-append f xs (y ∷ []) in
    let one = sum_by-cons f y [] in
    both ∙ ap (λ (n : ℕ). sum_by f xs + n) one ∙ omega arith

boxes-push : (d : List ℕ) (xs : List (List SetOf)) (y : List SetOf) → box_count d (xs ++ y ∷ []) ≡ box_count d xs + counted d y
boxes-push d xs y =
    let both = sum_by-append (counted d) xs (y ∷ []) in
    let one = count-cons d y [] in
    both ∙ ap (λ (n : ℕ). box_count d xs + n) one ∙ omega arith

-- what is known of the last two
record AreLastTwo (c : Coord) (last next : List SetOf) : Type 0 where
  pub first : IsBox last
  pub second : IsBox next
  pub alike : (k : Coord) → k ≢ c → set_at last k ≡ set_at next k
  pub choice : IsChoice (set_at last c)
  pub other_choice : IsChoice (set_at next c)
  pub few : length (named_numbers (set_at last c)) + length (named_numbers (set_at next c)) ≤ 512
  pub apart : (d : List ℕ) → IsMember last d → IsMember next d → ⊥

last-two : (c : Coord) (front : List (List SetOf)) (last next : List SetOf) → AreChoices c ((front ++ last ∷ []) ++ next ∷ []) → AreLastTwo c last next
last-two c front last next r = record {
  first = All-last IsBox front last (All-front IsBox (front ++ last ∷ []) next r.each);
  second = All-last IsBox (front ++ last ∷ []) next r.each;
  alike = λ k ne.
      let h = r.alike k ne in
      All-last (λ b. set_at b k ≡ h.0) front last (All-front (λ b. set_at b k ≡ h.0) (front ++ last ∷ []) next h.1) ∙ sym (All-last (λ b. set_at b k ≡ h.0) (front ++ last ∷ []) next h.1);
  choice = All-last (λ b. IsChoice (set_at b c)) front last (All-front (λ b. IsChoice (set_at b c)) (front ++ last ∷ []) next r.choices);
  other_choice = All-last (λ b. IsChoice (set_at b c)) (front ++ last ∷ []) next r.choices;
  few = let whole = values-push c (front ++ last ∷ []) next in let part = values-push c front last in let most = r.few in omega arith;
  apart = λ d first second.
      let whole = boxes-push d (front ++ last ∷ []) next in
      let part = boxes-push d front last in
      let one = counted-member d last first in
      let two = counted-member d next second in
      let once = r.once d in absurd (omega arith);
}

-- they can be joined
pub choices-join : (c : Coord) (front : List (List SetOf)) (last next : List SetOf) → AreChoices c ((front ++ last ∷ []) ++ next ∷ []) → CannotJoin last next → ⊥
choices-join c front last next r cannot =
    let two = last-two c front last next r in
    cannot c (record {
      here = choices-one c (set_at last c) (set_at next c) (two.first.each c).kind (two.second.each c).kind two.choice two.other_choice
          (λ n a b. let shared = shared-device last next c n two.first two.alike a b in two.apart shared.0 shared.1.0 shared.1.1) two.few;
      others = two.alike;
    })

-- and are joined there
joined-choice : (c : Coord) (last next both : List SetOf) → AreLastTwo c last next → HasJoinedSets last next both → IsJoinedSet (set_at last c) (set_at next c) (set_at both c) × ((k : Coord) → k ≢ c → set_at both k ≡ set_at last k)
joined-choice c last next both two has =
    by_coord has.0 c
    (λ e. subst (λ (i : Coord). IsJoinedSet (set_at last c) (set_at next c) (set_at both c) × ((k : Coord) → k ≢ i → set_at both k ≡ set_at last k)) e
    (subst (λ (i : Coord). IsJoinedSet (set_at last i) (set_at next i) (set_at both i)) e has.1.here, has.1.others))
    (λ ne.
    let m = some_member last two.first in
    let here : set_at last c ≡ set_at next c = has.1.can.others c (λ e. ne (sym e)) in
    absurd (two.apart m.0 m.1 (λ k. by_coord k c
    (λ e. subst (λ (i : Coord). IsIn (set_at next i) (device_number m.0 i)) (sym e) (subst (λ (s : SetOf). IsIn s (device_number m.0 c)) here (m.1 c)))
    (λ other. subst (λ (s : SetOf). IsIn s (device_number m.0 k)) (two.alike k other) (m.1 k)))))

pub put-choice : (c : Coord) (front : List (List SetOf)) (last next both : List SetOf) → AreChoices c ((front ++ last ∷ []) ++ next ∷ []) → length (front ++ last ∷ []) ≤ 1 → IsJoined last next both
    → HasJoinedSets last next both → IsOneChoice c ((front ++ last ∷ []) ++ next ∷ []) (front ++ both ∷ [])
put-choice c front last next both r few joined has =
    let two = last-two c front last next r in
    let there = joined-choice c last next both two has in
    let boxes = All-front IsBox (front ++ last ∷ []) next r.each in
    let choices = All-front (λ b. IsChoice (set_at b c)) (front ++ last ∷ []) next r.choices in
    let long = length_push front last in
    let new_long = length_push front both in record {
      each = All-push IsBox front both (All-front IsBox front last boxes) joined.is_box;
      alike = λ k ne set h.
          let first = All-front (λ b. set_at b k ≡ set) (front ++ last ∷ []) next h in
          All-push (λ b. set_at b k ≡ set) front both (All-front (λ b. set_at b k ≡ set) front last first) (there.1 k ne ∙ All-last (λ b. set_at b k ≡ set) front last first);
      choices = All-push (λ b. IsChoice (set_at b c)) front both (All-front (λ b. IsChoice (set_at b c)) front last choices) (mark-choice (set_at last c) (set_at both c) there.0.mark two.choice);
      count =
          let whole = values-push c (front ++ last ∷ []) next in
          let part = values-push c front last in
          let new = values-push c front both in
          let le = value-le (set_at last c) (set_at next c) (set_at both c) two.choice two.other_choice there.0 in
          omega arith;
      one = omega arith;
    }

-- the same of a list that is so
pub put-choice-at : (c : Coord) (old front new : List (List SetOf)) (last next both : List SetOf) → old ≡ front ++ last ∷ [] → new ≡ front ++ both ∷ [] → AreChoices c (old ++ next ∷ []) → length old ≤ 1
    → IsJoined last next both → HasJoinedSets last next both → IsOneChoice c (old ++ next ∷ []) new
put-choice-at c old front new last next both whole is r few joined has =
    subst (λ (l : List (List SetOf)). IsOneChoice c (l ++ next ∷ []) new) (sym whole)
    (subst (IsOneChoice c ((front ++ last ∷ []) ++ next ∷ [])) (sym is)
    (put-choice c front last next both (subst (λ (l : List (List SetOf)). AreChoices c (l ++ next ∷ [])) whole r) (subst (λ (l : List (List SetOf)). length l ≤ 1) whole few) joined has))

pub self-choice : (c : Coord) (boxes new : List (List SetOf)) → new ≡ boxes → AreChoices c boxes → length boxes ≤ 1 → IsOneChoice c boxes new
self-choice c boxes new is r few = subst (IsOneChoice c boxes) (sym is) (record { each = r.each; alike = λ k ne set h. h; choices = r.choices; count = omega arith; one = few })

-- ---- one after the other

pub choices-front : (c : Coord) (xs : List (List SetOf)) (y : List SetOf) → AreChoices c (xs ++ y ∷ []) → AreChoices c xs
choices-front c xs y r = record {
  each = All-front IsBox xs y r.each;
  alike = λ k ne. let h = r.alike k ne in (h.0, All-front (λ b. set_at b k ≡ h.0) xs y h.1);
  choices = All-front (λ b. IsChoice (set_at b c)) xs y r.choices;
  few = let whole = values-push c xs y in let most = r.few in omega arith;
  once = λ d. let whole = boxes-push d xs y in let once = r.once d in omega arith;
}

pub can-choose : (c : Coord) (old joined : List (List SetOf)) (next : List SetOf) → AreChoices c (old ++ next ∷ []) → HaveSameCounts old joined → IsOneChoice c old joined → AreChoices c (joined ++ next ∷ [])
can-choose c old joined next r same j = record {
  each = All-push IsBox joined next j.each (All-last IsBox old next r.each);
  alike = λ k ne. let h = r.alike k ne in (
    h.0,
    All-push (λ b. set_at b k ≡ h.0) joined next (j.alike k ne h.0 (All-front (λ b. set_at b k ≡ h.0) old next h.1)) (All-last (λ b. set_at b k ≡ h.0) old next h.1),
  );
  choices = All-push (λ b. IsChoice (set_at b c)) joined next j.choices (All-last (λ b. IsChoice (set_at b c)) old next r.choices);
  few = let whole = values-push c old next in let new = values-push c joined next in let most = r.few in let less = j.count in omega arith;
  once = λ d. let counts = same-behind old joined (next ∷ []) same d in let once = r.once d in omega arith;
}

pub choose-next : (c : Coord) (old joined new : List (List SetOf)) (next : List SetOf) → IsOneChoice c old joined → IsOneChoice c (joined ++ next ∷ []) new → IsOneChoice c (old ++ next ∷ []) new
choose-next c old joined new next before one = record {
  each = one.each;
  alike = λ k ne set h. one.alike k ne set (
      All-push (λ b. set_at b k ≡ set) joined next (before.alike k ne set (All-front (λ b. set_at b k ≡ set) old next h)) (All-last (λ b. set_at b k ≡ set) old next h)
      );
  choices = one.choices;
  count = let whole = values-push c old next in let part = values-push c joined next in let less = before.count in let more = one.count in omega arith;
  one = one.one;
}

-- ---- in their order

pub sorted-choices : (c : Coord) (boxes ys : List (List SetOf)) → DifferByChoices c boxes → IsPermutation boxes ys → AreChoices c ys
sorted-choices c boxes ys differ moved = record {
  each = All-permutation IsBox boxes ys moved differ.differ.each;
  alike = λ k ne. let h = differ.differ.alike k ne in (h.0, All-permutation (λ b. set_at b k ≡ h.0) boxes ys moved h.1);
  choices = All-permutation (λ b. IsChoice (set_at b c)) boxes ys moved differ.choices;
  few = let same = sum_by-IsPermutation (λ b. length (named_numbers (set_at b c))) boxes ys moved in let most = differ.few in omega arith;
  once = λ d. let same = sum_by-IsPermutation (counted d) boxes ys moved in let one = at_most_once d boxes (differ.differ.apart d) in omega arith;
}

pub choice-of-sorted : (c : Coord) (boxes ys new : List (List SetOf)) → IsPermutation boxes ys → IsOneChoice c ys new → IsOneChoice c boxes new
choice-of-sorted c boxes ys new moved j = record {
  each = j.each;
  alike = λ k ne set h. j.alike k ne set (All-permutation (λ b. set_at b k ≡ set) boxes ys moved h);
  choices = j.choices;
  count = let same = sum_by-IsPermutation (λ b. length (named_numbers (set_at b c))) boxes ys moved in let less = j.count in omega arith;
  one = j.one;
}

-- a choice has a value
choice-in : (s : SetOf) → IsProper s → IsChoice s → (n : ℕ) × IsIn s n
choice-in (NumbersOf ns) proper a = (get_or ns 0 0, Contains-get_or ns 0 0 proper.nonempty)
choice-in (LocalesOf ns) proper a = (get_or ns 0 0, Contains-get_or ns 0 0 proper.nonempty)
choice-in (RangeOf low high) proper a = absurd a

-- boxes that have one set there too are no two
pub one-set-chosen : (c : Coord) (boxes : List (List SetOf)) → DifferByChoices c boxes → IsPermutation boxes boxes → HasOneSet c boxes → IsOneChoice c boxes boxes
one-set-chosen c boxes differ moved one =
    let r = sorted-choices c boxes boxes differ moved in
    elim (cases_lt 1 (length boxes)) [
      | inl many ↦
          (let p : 0 < length boxes = omega arith in
          let value = choice-in (set_at (get_or boxes 0 []) c) ((differ.differ.each 0 [] p).each c).proper (differ.choices 0 [] p) in
          absurd (no-number-shared c boxes boxes 0 1 value.0 [] differ.differ moved (omega arith) many value.1 (subst (λ (s : SetOf). IsIn s value.0) (one-set c boxes 0 1 [] one p many) value.1)))
      | inr few ↦ record { each = r.each; alike = λ k ne set h. h; choices = r.choices; count = omega arith; one = few }
    ]
