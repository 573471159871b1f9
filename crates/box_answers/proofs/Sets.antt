-- What names a set, and what is tried in it, lies in it.
use Rattle.std.proofs.Common.{◌≡◌, ℕ, zero, suc, ◌+◌, ◌-◌, ◌<◌, ◌≤◌, ◌≢◌, List, length, get_or, set, sym, ap, subst, ◌∙◌, arith}
use Rattle.std.specs.Prelude.{◌↔◌, ◌==◌, true, Contains}
use Rattle.std.specs.List.{list_any}
use Rattle.std.specs.List.Sorted.{IsStrictlyIncreasing}
use Rattle.std.proofs.lemmas.List.{get_or_default, get_or-map, length-map}
use Rattle.std.proofs.lemmas.Bool.{eq-eqb, eqb-true}
use Rattle.std.proofs.lemmas.List.Elements.{Contains-get_or}
use Rattle.std.proofs.lemmas.List.Folds.{list_any_at}
use Rattle.std.proofs.lemmas.Map.Views.{Contains-from_any}
use Rattle.config_precedence.specs.config_record.declared.coord.Coord.{Coord}
use Rattle.config_precedence.specs.config_record.Coord.{all_coords, place_of, number_at}
use Rattle.config_precedence.specs.config_record.ComparedNumber.{device_number}
use Rattle.config_precedence.proofs.config_record.ChangedNumber.{by_coord, number_at-set_same, number_at-set_other}
use Rattle.config_precedence.specs.config_match.declared.answer.Answer.{Answer}
use Rattle.config_precedence.specs.config_match.declared.rule.Rule.{Rule}
use Rattle.config_precedence.specs.config_match.Rule.{rule_answer}
use Rattle.box_answers.specs.declared.number_set.NumberSet.{NumberSet}
use Rattle.box_answers.specs.NumberSet.{SetOf, RangeOf, NumbersOf, LocalesOf, set_of, named_numbers, IsIn, IsProper, IsLeastIn}
use Rattle.box_answers.specs.SearchedSet.{IsGreatestIn}
use Rattle.box_answers.specs.Members.{sets_of, set_at, IsMember, IsBox}
use Rattle.box_answers.specs.TriedNumbers.{clamped, tried_numbers}
use Rattle.box_answers.specs.Changes.{ChangesTo}
use Rattle.box_answers.proofs.Coords.{next-coord}

-- ---- lists

pub get_or_same : (xs : List ℕ) (k n : ℕ) → k < length xs → get_or xs k n ≡ n → n ≡ get_or xs k 0
get_or_same xs k n q e = sym e ∙ get_or_default xs k n 0 q

-- of numbers that rise a later one is no smaller
rises-le : (xs : List ℕ) (i k : ℕ) → IsStrictlyIncreasing xs → i + k < length xs → get_or xs i 0 ≤ get_or xs (i + k) 0
rises-le xs i zero rises q = let e : i + 0 ≡ i = omega arith in rw e (omega arith)
rises-le xs i (suc k) rises q =
    let before = rises-le xs i k rises (omega arith) in
    let step = rises (i + k) (omega arith) in
    let e : i + suc k ≡ (i + k) + 1 = omega arith in
    rw e (omega arith)

pub rises-between : (xs : List ℕ) (i j : ℕ) → IsStrictlyIncreasing xs → i ≤ j → j < length xs → get_or xs i 0 ≤ get_or xs j 0
rises-between xs i j rises le q =
    let e : i + (j - i) ≡ j = omega arith in
    subst (λ (m : ℕ). get_or xs i 0 ≤ get_or xs m 0) e (rises-le xs i (j - i) rises (omega arith))

first-least : (xs : List ℕ) → IsStrictlyIncreasing xs → (m : ℕ) → Contains xs m → get_or xs 0 0 ≤ m
first-least xs rises m is =
    let e = get_or_same xs is.0 m is.1 is.2 in
    let le = rises-between xs 0 is.0 rises (omega arith) is.1 in
    omega arith

last-greatest : (xs : List ℕ) → IsStrictlyIncreasing xs → (m : ℕ) → Contains xs m → m ≤ get_or xs (length xs - 1) 0
last-greatest xs rises m is =
    let e = get_or_same xs is.0 m is.1 is.2 in
    let le = rises-between xs is.0 (length xs - 1) rises (omega (arith, is.1)) (omega (arith, is.1)) in
    omega arith

-- the two ways in which a number is one of a list
pub listed-in : (ns : List ℕ) (n : ℕ) → (list_any (λ m. m == n) ns ≡ true) ↔ Contains ns n
listed-in ns n = (
  Contains-from_any {eq = λ q m. m == q} (λ q m e. sym (eqb-true m q e)) n ns,
  λ is. list_any_at (λ m. m == n) ns is.0 n is.1 (eq-eqb (get_or ns is.0 n) n is.2),
)

-- ---- the ends of a set

pub least-of : (set : SetOf) → IsProper set → IsLeastIn set (get_or (named_numbers set) 0 0)
least-of (RangeOf low high) p = record { is_in = (omega arith, p.rises); below = λ m is. is.0 }
least-of (NumbersOf numbers) p = record { is_in = Contains-get_or numbers 0 0 p.nonempty; below = first-least numbers p.rises }
least-of (LocalesOf locales) p = record { is_in = Contains-get_or locales 0 0 p.nonempty; below = first-least locales p.rises }

pub greatest-of : (set : SetOf) → IsProper set → IsGreatestIn set (get_or (named_numbers set) (length (named_numbers set) - 1) 0)
greatest-of (RangeOf low high) p = record { is_in = (p.rises, omega arith); above = λ m is. is.1 }
greatest-of (NumbersOf numbers) p = record { is_in = Contains-get_or numbers (length numbers - 1) 0 (omega (arith, p.nonempty)); above = last-greatest numbers p.rises }
greatest-of (LocalesOf locales) p =
    record { is_in = Contains-get_or locales (length locales - 1) 0 (omega (arith, p.nonempty)); above = last-greatest locales p.rises }

-- ---- the numbers that are tried

clamped-in : (low high n : ℕ) → low ≤ high → (low ≤ clamped low high n) × (clamped low high n ≤ high)
clamped-in low high n le = (omega arith, omega arith)

range-tried : (low high a b k : ℕ) → low ≤ high → k < 7 → IsIn (RangeOf low high) (get_or (tried_numbers (RangeOf low high) a b) k 0)
range-tried low high a b zero le q = (omega arith, le)
range-tried low high a b (suc zero) le q = (le, omega arith)
range-tried low high a b (suc (suc zero)) le q = clamped-in low high (low + 1) le
range-tried low high a b (suc (suc (suc zero))) le q = clamped-in low high (low + 2) le
range-tried low high a b (suc (suc (suc (suc zero)))) le q = clamped-in low high a le
range-tried low high a b (suc (suc (suc (suc (suc zero))))) le q = clamped-in low high b le
range-tried low high a b (suc (suc (suc (suc (suc (suc zero)))))) le q = clamped-in low high 3 le
range-tried low high a b (suc (suc (suc (suc (suc (suc (suc k))))))) le q = absurd (omega arith)

pub tried-in : (set : SetOf) (a b k : ℕ) → IsProper set → k < length (tried_numbers set a b) → IsIn set (get_or (tried_numbers set a b) k 0)
tried-in (RangeOf low high) a b k p q = range-tried low high a b k p.rises q
tried-in (NumbersOf numbers) a b k p q = Contains-get_or numbers k 0 q
tried-in (LocalesOf locales) a b k p q = Contains-get_or locales k 0 q

-- ---- the set at a coordinate

pub set-found : (sets : List NumberSet) (c : Coord) (set : NumberSet) → place_of c < length sets → set ≡ get_or sets (place_of c) set → set_of set ≡ set_at (sets_of sets) c
set-found sets c set q is = ap set_of is ∙ sym (get_or-map set_of sets (place_of c) set (RangeOf 0 0) q)

-- ---- members

-- a member with another number of the set is a member
pub set_count : (sets : List NumberSet) → IsBox (sets_of sets) → length sets ≡ 25
set_count sets box = sym (length-map sets set_of) ∙ box.count

pub proper-there : (sets : List SetOf) (set : SetOf) (c : Coord) → IsBox sets → set ≡ set_at sets c → IsProper set
proper-there sets set c box at = subst (λ (s : SetOf). IsProper s) (sym at) (box.each c).proper

pub member-changed : (sets : List SetOf) (d e : List ℕ) (c : Coord) (n : ℕ) → IsMember sets d → IsIn (set_at sets c) n → device_number e c ≡ n
    → ((k : Coord) → k ≢ c → device_number e k ≡ device_number d k) → IsMember sets e
member-changed sets d e c n member is same others k =
    by_coord k c
    (λ here. subst (λ (j : Coord). IsIn (set_at sets j) (device_number e j)) (sym here) (subst (λ (m : ℕ). IsIn (set_at sets c) m) (sym same) is))
    (λ other. subst (λ (m : ℕ). IsIn (set_at sets k) m) (sym (others k other)) (member k))

pub before-other : (c k : Coord) → place_of k < place_of c → k ≢ c
before-other c k q e = let same = ap place_of e in omega arith

pub change-found : (sets : List SetOf) (rule : Rule) (a b : Coord → ℕ) (from d : List ℕ) (c : Coord) (n : ℕ) (want : Answer) → IsMember sets from
    → place_of rule.coord ≤ place_of c → IsIn (set_at sets c) n → device_number d c ≡ n → ((k : Coord) → k ≢ c → device_number d k ≡ device_number from k)
    → rule_answer rule a b (device_number d) ≡ want → ChangesTo sets rule a b from want d
change-found sets rule a b from d c n want member after is same others answer = record {
  member = member-changed sets from d c n member is same others;
  answer = answer;
  before = λ k q. others k (before-other c k (omega arith));
}

-- a change of a change
pub change-twice : (sets : List SetOf) (rule : Rule) (a b : Coord → ℕ) (from mid d : List ℕ) (want : Answer)
    → ((k : Coord) → k ≢ rule.coord → device_number mid k ≡ device_number from k) → ChangesTo sets rule a b mid want d → ChangesTo sets rule a b from want d
change-twice sets rule a b from mid d want others change = record {
  member = change.member;
  answer = change.answer;
  before = λ k q. change.before k q ∙ others k (before-other rule.coord k q);
}

-- the least number of one more set is put into a list
pub fill-next : (sets : List SetOf) (numbers : List ℕ) (i : ℕ) (here : Coord) (items : List Coord) (d : Coord) (n : ℕ) → items ≡ all_coords → here ≡ get_or items i d → i < length items
    → length numbers ≡ 25 → IsLeastIn (set_at sets here) n → ((k : Coord) → place_of k < i → IsLeastIn (set_at sets k) (number_at numbers k))
    → (k : Coord) → place_of k < i + 1 → IsLeastIn (set_at sets k) (number_at (set numbers (place_of here) n) k)
fill-next sets numbers i here items d n all is on count least so_far =
    next-coord (λ k. IsLeastIn (set_at sets k) (number_at (set numbers (place_of here) n) k)) i here items d all is on
    (λ k q. by_coord k here
    (λ e. subst (λ (j : Coord). IsLeastIn (set_at sets j) (number_at (set numbers (place_of here) n) j)) (sym e) now)
    (λ ne. subst (λ (m : ℕ). IsLeastIn (set_at sets k) m) (sym (number_at-set_other numbers here k n ne)) (so_far k q)))
    now
  where
    now : IsLeastIn (set_at sets here) (number_at (set numbers (place_of here) n) here)
    now = subst (λ (m : ℕ). IsLeastIn (set_at sets here) m) (sym (number_at-set_same numbers here n count)) least
