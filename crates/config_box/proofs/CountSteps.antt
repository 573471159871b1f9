-- How many boxes of a list have a device.
use Rattle.std.proofs.Common.{◌≡◌, ℕ, ◌+◌, inl, inr, arith, List, [], ◌∷◌, ◌++◌, get_or, Bool, true, false, not, true≢false, refl, sym, ap, ◌∙◌}
use Rattle.std.specs.Prelude.{if◌then◌else◌}
use Rattle.std.specs.List.{list_any}
use Rattle.std.proofs.lemmas.Bool.Decides.{nat_tests}
use Rattle.std.proofs.lemmas.List.Folds.{list_any_at, list_any_none}
use Rattle.std.proofs.lemmas.List.Sums.{sum_by-append, sum_by-cons}
use Rattle.config_box.specs.config_record.declared.coord.Coord.TheVariants as coords
use Rattle.config_box.specs.config_record.Coord.{all_coords, place_of}
use Rattle.config_box.specs.config_record.ComparedNumber.{device_number}
use Rattle.config_box.proofs.config_record.DeviceLemmas.{coordinate-at_place, place_of-within}
use Rattle.config_box.specs.box_answers.NumberSet.{SetOf, RangeOf, NumbersOf, LocalesOf, IsIn}
use Rattle.config_box.specs.box_answers.Members.{set_at, IsMember}
use Rattle.config_box.proofs.box_answers.Sets.{listed-in}
use Rattle.config_box.specs.Joined.{IsJoined}
use Rattle.config_box.specs.Devices.{HasNone, HasOnce, KeepDevices}
use Rattle.config_box.specs.Counts.{is_in, is_out, counted, box_count, HaveSameCounts}

-- ---- one box

in-set : (s : SetOf) (n : ℕ) → is_in s n ≡ true → IsIn s n
in-set (RangeOf low high) n e = (grind (arith, nat_tests), grind (arith, nat_tests))
in-set (NumbersOf numbers) n e = (listed-in numbers n).0 e
in-set (LocalesOf numbers) n e = (listed-in numbers n).0 e

set-has : (s : SetOf) (n : ℕ) → IsIn s n → is_in s n ≡ true
set-has (RangeOf low high) n is = let first = is.0 in let last = is.1 in grind (arith, nat_tests)
set-has (NumbersOf numbers) n is = (listed-in numbers n).1 is
set-has (LocalesOf numbers) n is = (listed-in numbers n).1 is

by_test : {P : Type 0} (b : Bool) → (b ≡ true → P) → (b ≡ false → P) → P
by_test true yes_case no_case = yes_case refl
by_test false yes_case no_case = no_case refl

all-in : (b : List SetOf) (d : List ℕ) → list_any (is_out b d) all_coords ≡ false → IsMember b d
all-in b d e c =
    by_test (is_in (set_at b c) (device_number d c)) (λ is. in-set (set_at b c) (device_number d c) is)
    (λ is. absurd (true≢false (
    sym (list_any_at (is_out b d) all_coords (place_of c) coords.Mcc (place_of-within c) (ap (is_out b d) (coordinate-at_place c) ∙ ap not is)) ∙ e
    )))

none-out : (b : List SetOf) (d : List ℕ) → IsMember b d → list_any (is_out b d) all_coords ≡ false
none-out b d member = list_any_none (is_out b d) all_coords (λ k x q. ap not (set-has (set_at b (get_or all_coords k x)) (device_number d (get_or all_coords k x)) (member (get_or all_coords k x))))

pub counted-member : (d : List ℕ) (b : List SetOf) → IsMember b d → counted d b ≡ 1
unfolding counted
counted-member d b member = ap (λ (t : Bool). if t then 0 else 1) (none-out b d member)

pub counted-other : (d : List ℕ) (b : List SetOf) → (IsMember b d → ⊥) → counted d b ≡ 0
unfolding counted
counted-other d b other = by_test (list_any (is_out b d) all_coords) (λ e. ap (λ (t : Bool). if t then 0 else 1) e) (λ e. absurd (other (all-in b d e)))

-- it has the device or not
pub by_member : {P : Type 0} (d : List ℕ) (b : List SetOf) → (IsMember b d → P) → ((IsMember b d → ⊥) → P) → P
by_member d b member other =
    by_test (list_any (is_out b d) all_coords) (λ e. other (λ m. true≢false (sym e ∙ none-out b d m))) (λ e. member (all-in b d e))

-- ---- lists

pub count-cons : (d : List ℕ) (b : List SetOf) (bs : List (List SetOf)) → box_count d (b ∷ bs) ≡ counted d b + box_count d bs
count-cons d b bs = sum_by-cons (counted d) b bs

pub none-count : (d : List ℕ) (bs : List (List SetOf)) → HasNone d bs → box_count d bs ≡ 0
none-count d [] h = refl
none-count d (b ∷ bs) h = let both = count-cons d b bs in let here = counted-other d b h.0 in let rest = none-count d bs h.1 in omega arith

pub count-none : (d : List ℕ) (bs : List (List SetOf)) → box_count d bs ≡ 0 → HasNone d bs
count-none d [] e = tt
count-none d (b ∷ bs) e =
    let both = count-cons d b bs in
    (λ member. let here = counted-member d b member in absurd (omega arith), count-none d bs (omega arith))

pub once-count : (d : List ℕ) (bs : List (List SetOf)) → HasOnce d bs → box_count d bs ≡ 1
once-count d (b ∷ bs) (inl h) = let both = count-cons d b bs in let here = counted-member d b h.0 in let rest = none-count d bs h.1 in omega arith
once-count d (b ∷ bs) (inr h) = let both = count-cons d b bs in let here = counted-other d b h.0 in let rest = once-count d bs h.1 in omega arith
once-count d [] h = absurd h

pub count-once : (d : List ℕ) (bs : List (List SetOf)) → box_count d bs ≡ 1 → HasOnce d bs
count-once d [] e = absurd (omega arith)
count-once d (b ∷ bs) e =
    let both = count-cons d b bs in
    by_member d b
    (λ member. let here = counted-member d b member in inl (member, count-none d bs (omega arith)))
    (λ other. let here = counted-other d b other in inr (other, count-once d bs (omega arith)))

pub keep-devices : (old new : List (List SetOf)) → HaveSameCounts old new → KeepDevices old new
keep-devices old new same = record {
  none = λ d. (λ h. count-none d new (same d ∙ none-count d old h), λ h. count-none d old (sym (same d) ∙ none-count d new h));
  once = λ d. (λ h. count-once d new (same d ∙ once-count d old h), λ h. count-once d old (sym (same d) ∙ once-count d new h));
}

-- ---- what keeps the counts

pub same-behind : (a b c : List (List SetOf)) → HaveSameCounts a b → HaveSameCounts (a ++ c) (b ++ c)
same-behind a b c same d =
    sum_by-append (counted d) b c ∙ ap (λ (n : ℕ). n + box_count d c) (same d) ∙ sym (sum_by-append (counted d) a c)

-- the joined box counts as the two
joined-count : (a b j : List SetOf) → IsJoined a b j → (d : List ℕ) → counted d j ≡ counted d a + counted d b
joined-count a b j joined d =
    by_member d a
    (λ first.
    let one = counted-member d a first in
    let none = counted-other d b (λ second. joined.apart d first second) in
    let both = counted-member d j ((joined.members d).1 (inl first)) in omega arith)
    (λ not_first.
    let none = counted-other d a not_first in
    by_member d b
    (λ second. let one = counted-member d b second in let both = counted-member d j ((joined.members d).1 (inr second)) in omega arith)
    (λ not_second.
    let zero = counted-other d b not_second in
    let neither = counted-other d j (λ m. elim ((joined.members d).0 m) [ inl is ↦ not_first is | inr is ↦ not_second is ]) in omega arith))

pub same-joined : (front : List (List SetOf)) (a b j : List SetOf) → IsJoined a b j → HaveSameCounts ((front ++ a ∷ []) ++ b ∷ []) (front ++ j ∷ [])
same-joined front a b j joined d =
    let old = sum_by-append (counted d) (front ++ a ∷ []) (b ∷ []) in
    let part = sum_by-append (counted d) front (a ∷ []) in
    let new = sum_by-append (counted d) front (j ∷ []) in
    let both = joined-count a b j joined d in
    let last = count-cons d a [] in
    let next = count-cons d b [] in
    let one = count-cons d j [] in
    omega arith
