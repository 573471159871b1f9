-- A line names exactly the devices of its part.
use Rattle.std.proofs.Common.{◌≡◌, ℕ, ◌+◌, ◌-◌, ◌≤◌, inl, inr, arith, false, List, [], ◌∷◌, ◌++◌, length, map, get_or, set, eqb, eq-eqb, eqb-true, refl, sym, ap, subst, ◌∙◌}
use Rattle.std.specs.Prelude.{Contains}
use Rattle.std.specs.List.{list_any, range_with_len}
use Rattle.std.specs.List.Sorted.{IsStrictlyIncreasing}
use Rattle.std.proofs.lemmas.Bool.{cases_Bool}
use Rattle.std.proofs.lemmas.Bool.Decides.{nat_tests, Decides-eqb}
use Rattle.std.proofs.lemmas.Cmp.{nat_eq_equiv}
use Rattle.std.proofs.lemmas.List.{get_or-map, length-map, length_push}
use Rattle.std.proofs.lemmas.List.Elements.{Contains-push_cases}
use Rattle.std.proofs.lemmas.List.Folds.{list_any_at}
use Rattle.std.proofs.lemmas.List.FromFn.{length-range_with_len, get_or-range_with_len}
use Rattle.std.proofs.lemmas.List.Kept.{AllPairs-from_increasing}
use Rattle.std.proofs.lemmas.Map.Keys.{IsDistinct-push}
use Rattle.std.proofs.lemmas.Map.Made.{IsDistinct-from_AllPairs, length-le_from_is_member}
use Rattle.std.proofs.lemmas.Map.Views.{Contains-from_any}
use Rattle.config_record.specs.declared.coord.Coord.{Coord}
use Rattle.config_record.specs.declared.coord.Coord.TheVariants as coords
use Rattle.config_record.specs.Coord.{all_coords, place_of}
use Rattle.config_record.specs.ComparedNumber.{device_number}
use Rattle.config_record.proofs.ChangedNumber.{number_at-set_same, number_at-set_other}
use Rattle.config_record.proofs.DeviceLemmas.{coordinate-at_place, place_of-within}
use Rattle.config_box.proofs.box_answers.Coords.{all_coords-count}
use Rattle.config_box.proofs.box_answers.Sets.{member-changed}
use Rattle.config_box.proofs.box_answers.SomeMember.{some_member}
use Rattle.config_box.specs.box_answers.NumberSet.{SetOf, RangeOf, NumbersOf, LocalesOf, IsIn, IsProper}
use Rattle.config_box.specs.box_answers.Members.{set_at, IsMember, IsBox}
use Rattle.notation.specs.Narrower.{number_count, is_narrower}
use Rattle.notation.specs.DevicesLaw.{DevicesAreNamed}

-- ---- lists of numbers

-- rising numbers and one that is none of them are no more than a list that has them all
one-more : (xs ys : List ℕ) (n : ℕ) → IsStrictlyIncreasing xs → ((m : ℕ) → Contains xs m → Contains ys m) → Contains ys n → list_any (eqb n) xs ≡ false
    → length xs + 1 ≤ length ys
one-more xs ys n rises within there other =
    let distinct = IsDistinct-push nat_eq_equiv xs n (IsDistinct-from_AllPairs Decides-eqb xs (λ i j d lt q e. let less = AllPairs-from_increasing xs rises i j d lt q in absurd (omega arith))) other in
    let le : length (xs ++ n ∷ []) ≤ length ys = length-le_from_is_member nat_eq_equiv (xs ++ n ∷ []) ys distinct (λ q e.
    let is : Contains ys q = elim (Contains-push_cases xs n q (Contains-from_any {eq = eqb} eqb-true q (xs ++ n ∷ []) e)) [
      | inl old ↦ within q old
      | inr new ↦ subst (Contains ys) new there
    ] in
    list_any_at (eqb q) ys is.0 q is.1 (eq-eqb q (get_or ys is.0 q) (sym is.2))) in
    omega (arith, length_push xs n)

-- so a list that has them all and is no longer has no other
same-numbers : (xs ys : List ℕ) (n : ℕ) → IsStrictlyIncreasing xs → ((m : ℕ) → Contains xs m → Contains ys m) → length ys ≤ length xs → Contains ys n → Contains xs n
same-numbers xs ys n rises within few there =
    elim (cases_Bool (list_any (eqb n) xs)) [
      | inl e ↦ Contains-from_any {eq = eqb} eqb-true n xs e
      | inr other ↦ absurd (let more = one-more xs ys n rises within there other in omega arith)
    ]

-- ---- the numbers of a set

numbers-in : SetOf → List ℕ
numbers-in (RangeOf low high) = range_with_len low (high - low + 1)
numbers-in (NumbersOf numbers) = numbers
numbers-in (LocalesOf locales) = locales

count-of : (set : SetOf) → number_count set ≡ length (numbers-in set)
unfolding numbers-in
count-of (RangeOf low high) = sym (length-range_with_len low (high - low + 1))
count-of (NumbersOf numbers) = refl
count-of (LocalesOf locales) = refl

numbers-rise : (set : SetOf) → IsProper set → IsStrictlyIncreasing (numbers-in set)
unfolding numbers-in
numbers-rise (RangeOf low high) p k q =
    let size = length-range_with_len low (high - low + 1) in
    let here = get_or-range_with_len low (high - low + 1) k 0 (omega arith) in
    let next = get_or-range_with_len low (high - low + 1) (k + 1) 0 (omega arith) in
    omega arith
numbers-rise (NumbersOf numbers) p k q = p.rises k q
numbers-rise (LocalesOf locales) p k q = p.rises k q

listed : (set : SetOf) (n : ℕ) → IsIn set n → Contains (numbers-in set) n
unfolding numbers-in
listed (RangeOf low high) n is =
    let size = length-range_with_len low (high - low + 1) in
    let at = get_or-range_with_len low (high - low + 1) (n - low) n (omega (arith, is.0, is.1)) in
    (n - low, omega (arith, is.0, is.1), at ∙ omega (arith, is.0))
listed (NumbersOf numbers) n is = is
listed (LocalesOf locales) n is = is

of-listed : (set : SetOf) (n : ℕ) → IsProper set → Contains (numbers-in set) n → IsIn set n
unfolding numbers-in
of-listed (RangeOf low high) n p is =
    let size = length-range_with_len low (high - low + 1) in
    let short = is.1 in
    let at = get_or-range_with_len low (high - low + 1) is.0 n (omega arith) in
    let there = is.2 in
    let up = p.rises in
    (omega arith, omega arith)
of-listed (NumbersOf numbers) n p is = is
of-listed (LocalesOf locales) n p is = is

-- a set that lies in another and has no fewer numbers has all of them
same-set : (set part : SetOf) (n : ℕ) → IsProper part → ((m : ℕ) → IsIn part m → IsIn set m) → number_count set ≤ number_count part → IsIn set n → IsIn part n
same-set set part n proper within few is =
    of-listed part n proper (same-numbers (numbers-in part) (numbers-in set) n (numbers-rise part proper)
    (λ m there. listed set m (within m (of-listed part m proper there)))
    (let whole = count-of set in let own = count-of part in omega arith)
    (listed set n is))

-- ---- boxes

-- a device's numbers, one for each coordinate
all-numbers : List ℕ → List ℕ
all-numbers d = map (device_number d) all_coords

all-numbers-count : (d : List ℕ) → length (all-numbers d) ≡ 25
unfolding all-numbers
all-numbers-count d = length-map all_coords (device_number d) ∙ all_coords-count

all-numbers-same : (d : List ℕ) (c : Coord) → device_number (all-numbers d) c ≡ device_number d c
unfolding all-numbers
all-numbers-same d c = get_or-map (device_number d) all_coords (place_of c) coords.Mcc 0 (place_of-within c) ∙ ap (device_number d) (coordinate-at_place c)

-- where all members of a part are members of the whole, each number of the part is one of the whole: some member has it
each-number : (whole part : List SetOf) (c : Coord) (n : ℕ) → IsBox part → ((d : List ℕ) → IsMember part d → IsMember whole d) → IsIn (set_at part c) n → IsIn (set_at whole c) n
each-number whole part c n box within is =
    let m = some_member part box in
    let d : List ℕ = set (all-numbers m.0) (place_of c) n in
    let here : device_number d c ≡ n = number_at-set_same (all-numbers m.0) c n (all-numbers-count m.0) in
    let member = member-changed part m.0 d c n m.1 is here (λ k ne. number_at-set_other (all-numbers m.0) c k n ne ∙ all-numbers-same m.0 k) in
    subst (IsIn (set_at whole c)) here (within d member c)

no-narrower : (whole part : List SetOf) (c : Coord) → is_narrower whole part c ≡ false → number_count (set_at whole c) ≤ number_count (set_at part c)
unfolding is_narrower
no-narrower whole part c e = grind (arith, nat_tests)

pub devices_are_named : DevicesAreNamed
devices_are_named whole part box within d = (
  λ is. record { member = within d is; narrower = λ c e. is c },
  λ named c. elim (cases_Bool (is_narrower whole part c)) [
    | inl e ↦ named.narrower c e
    | inr e ↦ same-set (set_at whole c) (set_at part c) (device_number d c) (box.each c).proper (λ n. each-number whole part c n box within) (no-narrower whole part c e) (named.member c)
  ],
)
