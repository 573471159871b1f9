-- Parts of a box of which at most one coordinate has several values.
use Rattle.std.proofs.Common.{◌≡◌, ◌≢◌, ℕ, ◌<◌, ◌≤◌, ◌⊎◌, arith, List, [], ◌∷◌, length, get_or, set, flat_map, eqb, eq-eqb, eqb-true, sym, ap, subst, ◌∙◌}
use Rattle.std.specs.Prelude.{Contains}
use Rattle.std.specs.List.{All, AllPairs}
use Rattle.std.specs.List.Sorted.{IsStrictlyIncreasing}
use Rattle.std.proofs.lemmas.Bool.Decides.{Decides-eqb}
use Rattle.std.proofs.lemmas.Cmp.{nat_eq_equiv}
use Rattle.std.proofs.lemmas.List.Concat.{length-flat_map}
use Rattle.std.proofs.lemmas.List.Elements.{Contains-get_or, All-contains}
use Rattle.std.proofs.lemmas.List.Folds.{list_any_at}
use Rattle.std.proofs.lemmas.List.Kept.{AllPairs-from_increasing}
use Rattle.std.proofs.lemmas.List.Sorted.{IsPermutation-refl}
use Rattle.std.proofs.lemmas.Map.Made.{IsDistinct-from_AllPairs, length-le_from_is_member}
use Rattle.std.proofs.lemmas.Map.Views.{Contains-from_any}
use Rattle.config_box.specs.config_record.declared.coord.Coord.{Coord}
use Rattle.config_box.specs.config_record.Coord.{place_of}
use Rattle.config_box.specs.config_record.ComparedNumber.{device_number}
use Rattle.config_box.proofs.config_record.ChangedNumber.{by_coord, number_at-set_same, number_at-set_other}
use Rattle.config_box.proofs.box_answers.SomeMember.{some_member}
use Rattle.config_box.proofs.HalfSteps.{marks-self}
use Rattle.config_box.specs.box_answers.NumberSet.{SetOf, RangeOf, NumbersOf, LocalesOf, IsIn, IsProper, named_numbers}
use Rattle.config_box.specs.box_answers.Members.{set_at, IsMember, IsBox}
use Rattle.config_box.specs.Marks.{AreMarkedAlike}
use Rattle.config_box.specs.Devices.{HasNone, HasOnce}
use Rattle.config_box.specs.Kinds.{IsOfKinds}
use Rattle.config_box.specs.Least.{DifferAt, IsRange, DifferByRanges, IsChoice, DifferByChoices, value_count}
use Rattle.config_box.proofs.OneChoiceSteps.{mark-choice}
use Rattle.config_box.proofs.PairSteps.{all-flat, pairs-flat}
use Rattle.config_box.proofs.SortSteps.{member-with, no-number-shared}

-- a box, and a member of it as the list of its 25 numbers; no coordinate but this one has several values
pub record IsLine (sets : List SetOf) (c : Coord) (base : List ℕ) : Type 0 where
  pub is_box : IsBox sets
  pub count : length base ≡ 25
  pub member : IsMember sets base
  pub others : (k : Coord) (m n : ℕ) → k ≢ c → IsIn (set_at sets k) m → IsIn (set_at sets k) n → m ≡ n

-- a box of its kinds, without other members
pub record IsPart (sets part : List SetOf) : Type 0 where
  pub kinds : IsOfKinds sets part
  pub within : (d : List ℕ) → IsMember part d → IsMember sets d

-- ---- sets with one value

one-number : (xs : List ℕ) (v : ℕ) → 0 < length xs → IsStrictlyIncreasing xs → ((n : ℕ) → Contains xs n → n ≡ v) → xs ≡ v ∷ []
one-number [] v some rises all = absurd (omega arith)
one-number (x ∷ []) v some rises all = ap (λ (n : ℕ). n ∷ []) (all x (Contains-get_or (x ∷ []) 0 0 (omega arith)))
one-number (x ∷ y ∷ xs) v some rises all =
    let first = all x (Contains-get_or (x ∷ y ∷ xs) 0 0 (omega arith)) in
    let second = all y (Contains-get_or (x ∷ y ∷ xs) 1 0 (omega arith)) in
    let less : x < y = rises 0 (omega arith) in
    absurd (omega arith)

one-value : (s t : SetOf) (v : ℕ) → AreMarkedAlike s t → IsProper s → IsProper t → ((n : ℕ) → IsIn s n → n ≡ v) → ((n : ℕ) → IsIn t n → n ≡ v) → s ≡ t
one-value (RangeOf a b) (RangeOf x y) v alike first second mine other =
    let up : a ≤ b = first.rises in
    let other_up : x ≤ y = second.rises in
    let low = mine a (omega arith, up) ∙ sym (other x (omega arith, other_up)) in
    let high = mine b (up, omega arith) ∙ sym (other y (other_up, omega arith)) in
    ap (λ (n : ℕ). RangeOf n b) low ∙ ap (RangeOf x) high
one-value (NumbersOf xs) (NumbersOf ys) v alike first second mine other =
    ap NumbersOf (one-number xs v first.nonempty first.rises mine ∙ sym (one-number ys v second.nonempty second.rises other))
one-value (LocalesOf xs) (LocalesOf ys) v alike first second mine other =
    ap LocalesOf (one-number xs v first.nonempty first.rises mine ∙ sym (one-number ys v second.nonempty second.rises other))
one-value s t v alike first second mine other = absurd (assumption)

-- ---- sets of one kind

alike-range : (s t : SetOf) → AreMarkedAlike s t → IsProper t → IsRange s → IsRange t
alike-range (RangeOf a b) (RangeOf x y) alike proper up = proper.rises
alike-range s t alike proper up = absurd (assumption)

-- the first number that names a set is in it
pub low-is-in : (s : SetOf) → IsProper s → IsIn s (get_or (named_numbers s) 0 0)
low-is-in (RangeOf low high) proper = let up : low ≤ high = proper.rises in (omega arith, up)
low-is-in (NumbersOf xs) proper = Contains-get_or xs 0 0 proper.nonempty
low-is-in (LocalesOf xs) proper = Contains-get_or xs 0 0 proper.nonempty

chosen-in : (s : SetOf) → IsChoice s → (n : ℕ) → Contains (named_numbers s) n → IsIn s n
chosen-in (RangeOf low high) is n h = absurd is
chosen-in (NumbersOf xs) is n h = h
chosen-in (LocalesOf xs) is n h = h

in-chosen : (s : SetOf) → IsChoice s → (n : ℕ) → IsIn s n → Contains (named_numbers s) n
in-chosen (RangeOf low high) is n h = absurd is
in-chosen (NumbersOf xs) is n h = h
in-chosen (LocalesOf xs) is n h = h

chosen-once : (s : SetOf) → IsChoice s → IsProper s → AllPairs (λ m n. m ≢ n) (named_numbers s)
chosen-once (RangeOf low high) is proper = absurd is
chosen-once (NumbersOf xs) is proper = λ i j d lt q same. let less = AllPairs-from_increasing xs proper.rises i j d lt q in absurd (omega arith)
chosen-once (LocalesOf xs) is proper = λ i j d lt q same. let less = AllPairs-from_increasing xs proper.rises i j d lt q in absurd (omega arith)

-- ---- along the line

module _ (sets : List SetOf) (c : Coord) (base : List ℕ) (line : IsLine sets c base) where
  -- the device with another number there
  abbrev pub at : ℕ → List ℕ
  at n = set base (place_of c) n

  at-here : (n : ℕ) → device_number (at n) c ≡ n
  at-here n = number_at-set_same base c n line.count

  at-other : (n : ℕ) (k : Coord) → k ≢ c → device_number (at n) k ≡ device_number base k
  at-other n k ne = number_at-set_other base c k n ne

  -- at another coordinate a part has the number of the whole box, and no other
  only : (part : List SetOf) (k : Coord) (n : ℕ) → IsPart sets part → k ≢ c → IsIn (set_at part k) n → n ≡ device_number base k
  only part k n is ne h =
      let m = member-with part k n is.kinds.is_box h in
      line.others k n (device_number base k) ne (subst (IsIn (set_at sets k)) m.2 (is.within m.0 m.1 k)) (line.member k)

  has-base : (part : List SetOf) (k : Coord) → IsPart sets part → k ≢ c → IsIn (set_at part k) (device_number base k)
  has-base part k is ne = let m = some_member part is.kinds.is_box in subst (IsIn (set_at part k)) (only part k (device_number m.0 k) is ne (m.1 k)) (m.1 k)

  pub member-at : (part : List SetOf) (n : ℕ) → IsPart sets part → IsIn (set_at part c) n → IsMember part (at n)
  member-at part n is h k =
      by_coord k c (λ e. subst (λ (i : Coord). IsIn (set_at part i) (device_number (at n) i)) (sym e) (subst (IsIn (set_at part c)) (sym (at-here n)) h))
      (λ ne. subst (IsIn (set_at part k)) (sym (at-other n k ne)) (has-base part k is ne))

  pub in-at : (part : List SetOf) (n : ℕ) → IsMember part (at n) → IsIn (set_at part c) n
  in-at part n m = subst (IsIn (set_at part c)) (at-here n) (m c)

  whole : IsPart sets sets
  whole = record { kinds = record { is_box = line.is_box; marks = λ k. marks-self (set_at sets k) }; within = λ d m. m }

  as-whole : (part : List SetOf) (k : Coord) → IsPart sets part → k ≢ c → set_at part k ≡ set_at sets k
  as-whole part k is ne =
      sym (one-value (set_at sets k) (set_at part k) (device_number base k) (is.kinds.marks k) (line.is_box.each k).proper (is.kinds.is_box.each k).proper (λ n h. only sets k n whole ne h) (λ n h. only part k n is ne h))

  pub alike : (a b : List SetOf) → IsPart sets a → IsPart sets b → (k : Coord) → k ≢ c → set_at a k ≡ set_at b k
  alike a b first second k ne = as-whole a k first ne ∙ sym (as-whole b k second ne)

  pub part-range : (part : List SetOf) → IsPart sets part → IsRange (set_at sets c) → IsRange (set_at part c)
  part-range part is up = alike-range (set_at sets c) (set_at part c) (is.kinds.marks c) (is.kinds.is_box.each c).proper up

  part-choice : (part : List SetOf) → IsPart sets part → IsChoice (set_at sets c) → IsChoice (set_at part c)
  part-choice part is choice = mark-choice (set_at sets c) (set_at part c) (is.kinds.marks c) choice

  -- ---- how parts differ

  differ-at : (boxes : List (List SetOf)) → All (IsPart sets) boxes → ((d : List ℕ) → HasNone d boxes ⊎ HasOnce d boxes) → DifferAt c boxes
  differ-at boxes parts apart = record {
    each = λ k d q. (parts k d q).kinds.is_box;
    alike = λ k ne. (set_at sets k, λ i d q. as-whole (get_or boxes i d) k (parts i d q) ne);
    apart = apart;
  }

  pub by-ranges : (boxes : List (List SetOf)) → IsRange (set_at sets c) → All (IsPart sets) boxes → ((d : List ℕ) → HasNone d boxes ⊎ HasOnce d boxes) → DifferByRanges c boxes
  by-ranges boxes up parts apart = record {
    differ = differ-at boxes parts apart;
    ranges = λ k d q. part-range (get_or boxes k d) (parts k d q) up;
  }

  abbrev numbers_of : List SetOf → List ℕ
  numbers_of b = named_numbers (set_at b c)

  -- the values of all parts are values of the whole box, each once
  few-values : (boxes : List (List SetOf)) → IsChoice (set_at sets c) → All (IsPart sets) boxes → DifferAt c boxes → value_count c boxes ≤ length (numbers_of sets)
  few-values boxes choice parts differ =
      let all : List ℕ = flat_map numbers_of boxes in
      let once : AllPairs (λ m n. m ≢ n) all =
      pairs-flat (λ m n. m ≢ n) numbers_of boxes (λ k d q. chosen-once (set_at (get_or boxes k d) c) (part-choice (get_or boxes k d) (parts k d q) choice) ((parts k d q).kinds.is_box.each c).proper)
      (λ i j d lt q x e p y f r same.
      let mine : List SetOf = get_or boxes i d in
      let other : List SetOf = get_or boxes j d in
      let first = chosen-in (set_at mine c) (part-choice mine (parts i d (omega arith)) choice) (get_or (numbers_of mine) x e) (Contains-get_or (numbers_of mine) x e p) in
      let second = chosen-in (set_at other c) (part-choice other (parts j d q) choice) (get_or (numbers_of other) y f) (Contains-get_or (numbers_of other) y f r) in
      no-number-shared c boxes boxes i j (get_or (numbers_of mine) x e) d differ (IsPermutation-refl boxes) lt q first (subst (IsIn (set_at other c)) (sym same) second)) in
      let each : All (Contains (numbers_of sets)) all =
      all-flat (Contains (numbers_of sets)) numbers_of boxes
      (λ k d q x e p.
      let part : List SetOf = get_or boxes k d in
      let n : ℕ = get_or (numbers_of part) x e in
      let here = chosen-in (set_at part c) (part-choice part (parts k d q) choice) n (Contains-get_or (numbers_of part) x e p) in
      in-chosen (set_at sets c) choice n (in-at sets n ((parts k d q).within (at n) (member-at part n (parts k d q) here)))) in
      let distinct = IsDistinct-from_AllPairs Decides-eqb all once in
      let le : length all ≤ length (numbers_of sets) = length-le_from_is_member nat_eq_equiv all (numbers_of sets) distinct (λ n e.
      let there = All-contains (Contains (numbers_of sets)) all n each (Contains-from_any {eq = eqb} eqb-true n all e) in
      list_any_at (eqb n) (numbers_of sets) there.0 n there.1 (eq-eqb n (get_or (numbers_of sets) there.0 n) (sym there.2))) in
      let long = length-flat_map numbers_of boxes in
      omega arith

  pub by-choices : (boxes : List (List SetOf)) → IsChoice (set_at sets c) → All (IsPart sets) boxes → ((d : List ℕ) → HasNone d boxes ⊎ HasOnce d boxes) → DifferByChoices c boxes
  by-choices boxes choice parts apart =
      let differ = differ-at boxes parts apart in
      let most = few-values boxes choice parts differ in
      let few = (line.is_box.each c).few in
      record {
        differ = differ;
        choices = λ k d q. part-choice (get_or boxes k d) (parts k d q) choice;
        few = omega arith;
      }
