-- Boxes that have no device in common, in the order of their ranges.
use Rattle.std.proofs.Common.{◌≡◌, ◌≢◌, ℕ, zero, suc, ◌<◌, ◌≤◌, ◌⊎◌, inl, inr, arith, List, [], ◌∷◌, length, map, get_or, set, false, sym, ap, subst, ◌∙◌}
use Rattle.std.specs.List.Sorted.{IsPermutation, IsSortedBy}
use Rattle.std.specs.Ordering.{is_lt}
use Rattle.std.proofs.lemmas.Bool.{cases_lt}
use Rattle.std.proofs.lemmas.List.{get_or-map, length-map}
use Rattle.std.proofs.lemmas.List.Sorted.{sorted_far, All-permutation, sum_by-IsPermutation}
use Rattle.config_box.specs.config_record.declared.coord.Coord.{Coord}
use Rattle.config_box.specs.config_record.declared.coord.Coord.TheVariants as coords
use Rattle.config_box.specs.config_record.Coord.{all_coords, place_of}
use Rattle.config_box.specs.config_record.ComparedNumber.{device_number}
use Rattle.config_box.proofs.config_record.DeviceLemmas.{coordinate-at_place, place_of-within}
use Rattle.config_box.proofs.config_record.ChangedNumber.{by_coord, number_at-set_same, number_at-set_other}
use Rattle.config_box.proofs.box_answers.Coords.{all_coords-count}
use Rattle.config_box.proofs.box_answers.SomeMember.{some_member}
use Rattle.config_box.specs.box_answers.NumberSet.{SetOf, RangeOf, NumbersOf, LocalesOf, IsIn, named_numbers}
use Rattle.config_box.specs.box_answers.Members.{set_at, IsMember, IsBox}
use Rattle.config_box.specs.Order.{order_but}
use Rattle.config_box.specs.Devices.{HasNone, HasOnce}
use Rattle.config_box.specs.Counts.{counted, box_count}
use Rattle.config_box.specs.Least.{HasOneSet, IsRange, DifferAt, DifferByRanges}
use Rattle.config_box.specs.Ranges.{low_at, high_at, AreRanges, AreInOrder, AreJoinedRanges}
use Rattle.config_box.proofs.CountSteps.{counted-member, count-cons, none-count, once-count}
use Rattle.config_box.proofs.OrderLaws.{boxes_ranked, alike-order, low-order}
use Rattle.config_box.proofs.RangeSteps.{one-set, self-joined}

-- ---- a device that two boxes have

pub count-some : (d : List ℕ) (bs : List (List SetOf)) (i : ℕ) (x : List SetOf) → i < length bs → IsMember (get_or bs i x) d → 1 ≤ box_count d bs
count-some d [] i x q member = absurd (omega arith)
count-some d (b ∷ bs) zero x q member = let both = count-cons d b bs in let here = counted-member d b member in omega arith
count-some d (b ∷ bs) (suc i) x q member = let both = count-cons d b bs in let rest = count-some d bs i x (omega arith) member in omega arith

pub count-two : (d : List ℕ) (bs : List (List SetOf)) (i j : ℕ) (x : List SetOf) → i < j → j < length bs → IsMember (get_or bs i x) d → IsMember (get_or bs j x) d → 2 ≤ box_count d bs
count-two d [] i j x lt q first second = absurd (omega arith)
count-two d (b ∷ bs) i zero x lt q first second = absurd (omega arith)
count-two d (b ∷ bs) zero (suc j) x lt q first second =
    let both = count-cons d b bs in let here = counted-member d b first in let rest = count-some d bs j x (omega arith) second in omega arith
count-two d (b ∷ bs) (suc i) (suc j) x lt q first second =
    let both = count-cons d b bs in let rest = count-two d bs i j x (omega arith) (omega arith) first second in omega arith

-- the same numbers, one for each coordinate
all-numbers : List ℕ → List ℕ
all-numbers d = map (device_number d) all_coords

all-numbers-same : (d : List ℕ) (k : Coord) → device_number (all-numbers d) k ≡ device_number d k
unfolding all-numbers
all-numbers-same d k = get_or-map (device_number d) all_coords (place_of k) coords.Mcc 0 (place_of-within k) ∙ ap (device_number d) (coordinate-at_place k)

all-numbers-count : (d : List ℕ) → length (all-numbers d) ≡ 25
unfolding all-numbers
all-numbers-count d = length-map all_coords (device_number d) ∙ all_coords-count

-- a member with a number of the set at a coordinate
pub member-with : (b : List SetOf) (c : Coord) (n : ℕ) → IsBox b → IsIn (set_at b c) n → (d : List ℕ) × IsMember b d × (device_number d c ≡ n)
member-with b c n box is =
    let m = some_member b box in
    let d : List ℕ = set (all-numbers m.0) (place_of c) n in
    let here : device_number d c ≡ n = number_at-set_same (all-numbers m.0) c n (all-numbers-count m.0) in
    let other : (k : Coord) → k ≢ c → device_number d k ≡ device_number m.0 k = λ k ne. number_at-set_other (all-numbers m.0) c k n ne ∙ all-numbers-same m.0 k in (
      d,
      λ k. by_coord k c (λ e. subst (λ (i : Coord). IsIn (set_at b i) (device_number d i)) (sym e) (subst (IsIn (set_at b c)) (sym here) is)) (λ ne. subst (IsIn (set_at b k)) (sym (other k ne)) (m.1 k)),
      here,
    )

-- boxes that are alike but at a coordinate, and have a number there in common, have a device in common
pub shared-device : (a b : List SetOf) (c : Coord) (n : ℕ) → IsBox a → ((k : Coord) → k ≢ c → set_at a k ≡ set_at b k) → IsIn (set_at a c) n → IsIn (set_at b c) n
    → (d : List ℕ) × (IsMember a d × IsMember b d)
shared-device a b c n box alike first second =
    let m = member-with a c n box first in (
      m.0,
      (
        m.1,
        λ k. by_coord k c (λ e. subst (λ (i : Coord). IsIn (set_at b i) (device_number m.0 i)) (sym e) (subst (IsIn (set_at b c)) (sym m.2) second))
            (λ ne. subst (λ (s : SetOf). IsIn s (device_number m.0 k)) (alike k ne) (m.1 k)),
      ),
    )

pub at_most_once : (d : List ℕ) (boxes : List (List SetOf)) → HasNone d boxes ⊎ HasOnce d boxes → box_count d boxes ≤ 1
at_most_once d boxes (inl none) = let zero_count = none-count d boxes none in omega arith
at_most_once d boxes (inr once) = let one = once-count d boxes once in omega arith

-- so two of the boxes have no number there in common, in whatever order they stand
pub no-number-shared : (c : Coord) (boxes ys : List (List SetOf)) (i j n : ℕ) (x : List SetOf) → DifferAt c boxes → IsPermutation boxes ys → i < j → j < length ys
    → IsIn (set_at (get_or ys i x) c) n → IsIn (set_at (get_or ys j x) c) n → ⊥
no-number-shared c boxes ys i j n x differ moved lt q first second =
    let each = All-permutation IsBox boxes ys moved differ.each in
    let alike : (k : Coord) → k ≢ c → set_at (get_or ys i x) k ≡ set_at (get_or ys j x) k =
    λ k ne. let h = differ.alike k ne in one-set k ys i j x (h.0, All-permutation (λ b. set_at b k ≡ h.0) boxes ys moved h.1) (omega arith) q in
    let shared = shared-device (get_or ys i x) (get_or ys j x) c n (each i x (omega arith)) alike first second in
    let two = count-two shared.0 ys i j x lt q shared.1.0 shared.1.1 in
    let one = at_most_once shared.0 boxes (differ.apart shared.0) in
    let same = sum_by-IsPermutation (counted shared.0) boxes ys moved in
    omega arith

-- ---- in their order each lies behind those before it

low-in : (s : SetOf) → IsRange s → IsIn s (get_or (named_numbers s) 0 0)
low-in (RangeOf low high) up = (omega arith, up)
low-in (NumbersOf numbers) up = absurd up
low-in (LocalesOf numbers) up = absurd up

between-in : (s : SetOf) (n : ℕ) → IsRange s → get_or (named_numbers s) 0 0 ≤ n → n ≤ get_or (named_numbers s) 1 0 → IsIn s n
between-in (RangeOf low high) n up from to = (from, to)
between-in (NumbersOf numbers) n up from to = absurd up
between-in (LocalesOf numbers) n up from to = absurd up

pub sorted-order : (c : Coord) (boxes ys : List (List SetOf)) → DifferByRanges c boxes → IsPermutation boxes ys → IsSortedBy (λ a b. is_lt (order_but c a b)) ys → AreInOrder c ys
sorted-order c boxes ys differ moved sorted i j d lt q =
    let a : List SetOf = get_or ys i d in
    let b : List SetOf = get_or ys j d in
    let each = All-permutation IsBox boxes ys moved differ.differ.each in
    let ranges = All-permutation (λ b. IsRange (set_at b c)) boxes ys moved differ.ranges in
    let p : i < length ys = omega arith in
    let alike : (k : Coord) → k ≢ c → set_at b k ≡ set_at a k =
    λ k ne. let h = differ.differ.alike k ne in one-set k ys j i d (h.0, All-permutation (λ b. set_at b k ≡ h.0) boxes ys moved h.1) q p in
    let far : is_lt (order_but c b a) ≡ false = sorted_far (λ a b. is_lt (order_but c a b)) (boxes_ranked c) ys sorted i j d (omega arith) q in
    let low : low_at c a ≤ low_at c b = low-order (set_at a c) (set_at b c) (ranges i d p) (ranges j d q) (ap is_lt (sym (alike-order b a c (each j d q).count (each i d p).count alike)) ∙ far) in
    elim (cases_lt (high_at c a) (low_at c b)) [
      | inl behind ↦ behind
      | inr not_behind ↦ absurd (no-number-shared c boxes ys i j (low_at c b) d differ.differ moved lt q
          (between-in (set_at a c) (low_at c b) (ranges i d p) low not_behind) (low-in (set_at b c) (ranges j d q)))
    ]

pub sorted-ranges : (c : Coord) (boxes ys : List (List SetOf)) → DifferByRanges c boxes → IsPermutation boxes ys → AreRanges c ys
sorted-ranges c boxes ys differ moved = record {
  alike = λ k ne. let h = differ.differ.alike k ne in (h.0, All-permutation (λ b. set_at b k ≡ h.0) boxes ys moved h.1);
  ranges = All-permutation (λ b. IsRange (set_at b c)) boxes ys moved differ.ranges;
}

-- what is joined of the boxes in order is joined of the boxes
pub joined-of-sorted : (c : Coord) (boxes ys new : List (List SetOf)) → IsPermutation boxes ys → AreJoinedRanges c ys new → AreJoinedRanges c boxes new
joined-of-sorted c boxes ys new moved j = record {
  alike = λ k ne set h. j.alike k ne set (All-permutation (λ b. set_at b k ≡ set) boxes ys moved h);
  ranges = j.ranges;
  gaps = j.gaps;
  below = λ n h. j.below n (All-permutation (λ b. high_at c b < n) boxes ys moved h);
}

-- boxes that have one set there too are no two
pub one-set-joined : (c : Coord) (boxes : List (List SetOf)) → DifferByRanges c boxes → IsPermutation boxes boxes → HasOneSet c boxes → AreJoinedRanges c boxes boxes
one-set-joined c boxes differ moved one =
    self-joined c boxes (sorted-ranges c boxes boxes differ moved)
    (λ i j d lt q.
    let up = differ.ranges i d (omega arith) in
    let low = low-in (set_at (get_or boxes i d) c) up in
    absurd (no-number-shared c boxes boxes i j (low_at c (get_or boxes i d)) d differ.differ moved lt q low
    (subst (λ (s : SetOf). IsIn s (low_at c (get_or boxes i d))) (one-set c boxes i j d one (omega arith) q) low)))
