-- The halves of sets and of boxes.
use Rattle.std.proofs.Common.{◌≡◌, ◌≢◌, ℕ, ◌+◌, ◌<◌, ◌≤◌, arith, List, length, set, Bool, true, false, not, filter, sym, ◌∙◌, ap, subst}
use Rattle.std.specs.Prelude.{Contains, min, max}
use Rattle.std.proofs.lemmas.Bool.{not-true, false_from_ne_true, true_from_ne_false}
use Rattle.std.proofs.lemmas.Bool.Decides.{nat_tests}
use Rattle.std.proofs.lemmas.List.{get_or-set_same, get_or-set_other}
use Rattle.std.proofs.Math.ListN.{length-set}
use Rattle.std.proofs.lemmas.List.Sums.{length-filter, count_by-le-length}
use Rattle.std.proofs.lemmas.List.Kept.{IsStrictlyIncreasing-filter}
use Rattle.box_answers.specs.config_record.declared.coord.Coord.{Coord}
use Rattle.box_answers.specs.config_record.declared.coord.Coord.TheVariants as coords
use Rattle.box_answers.specs.config_record.locales.declared.locale.Locale.{Locale}
use Rattle.box_answers.specs.config_record.Coord.{place_of}
use Rattle.box_answers.specs.config_record.ComparedNumber.{device_number}
use Rattle.box_answers.specs.config_record.locales.LocaleNumber.{locale_number}
use Rattle.box_answers.proofs.config_record.ChangedNumber.{by_coord, place_of-injective}
use Rattle.box_answers.specs.NumberSet.{SetOf, RangeOf, NumbersOf, LocalesOf, locale_numbers, IsIn, IsProper}
use Rattle.box_answers.specs.Members.{set_at, IsMember, IsOfKind, IsSetAt, IsBox}
use Rattle.box_answers.specs.MemberAnswers.{AllAnswer}
use Rattle.box_answers.proofs.Coords.{place_of-below}
use Rattle.config_box.specs.Marks.{AreMarkedAlike}
use Rattle.config_box.specs.Tests.{ChoiceOf, TestOf, AtMostOf, AmongOf, coord_of, passes, answers, is_range, has_wrong_kind}
use Rattle.config_box.specs.HalfSets.{gives, IsAskable, NoneAnswers, IsHalfSet}
use Rattle.config_box.specs.Halves.{IsHalf}
use Rattle.config_box.proofs.Filters.{kept-in, kept-all, map-filter}

-- ---- what gives an answer

gives-is : (test : TestOf) (answer : Bool) (n : ℕ) → gives test answer n ≡ true → passes test n ≡ answer
gives-is test true n e = e
gives-is test false n e = not-true (passes test n) e

is-gives : (test : TestOf) (answer : Bool) (n : ℕ) → passes test n ≡ answer → gives test answer n ≡ true
is-gives test true n e = e
is-gives test false n e = ap not e

-- ---- of a choice

pub numbers-half : (numbers kept : List ℕ) (test : TestOf) (answer : Bool) → IsProper (NumbersOf numbers) → kept ≡ filter (λ n. gives test answer n) numbers → 0 < length kept
    → IsHalfSet (NumbersOf numbers) test answer (NumbersOf kept)
numbers-half numbers kept test answer proper e some =
    let gives_it : ℕ → Bool = λ n. gives test answer n in
    let count : length kept ≤ length numbers = omega (arith, ap (λ (ns : List ℕ). length ns) e, length-filter gives_it numbers, count_by-le-length gives_it numbers) in record {
      numbers = λ n. (
        λ is. let r = kept-in (λ m. gives test answer m) n numbers (subst (λ (xs : List ℕ). Contains xs n) e is) in (r.0, gives-is test answer n r.1),
        λ is. subst (λ (xs : List ℕ). Contains xs n) (sym e) (kept-all (λ m. gives test answer m) n numbers is.0 (is-gives test answer n is.1)),
      );
      mark = tt;
      proper = record { nonempty = some; rises = rw e (IsStrictlyIncreasing-filter (λ n. gives test answer n) numbers proper.rises) };
      few = count;
    }

-- locales are kept as their numbers are
pub locales-kept : (locales kept : List Locale) (test : TestOf) (answer : Bool) → kept ≡ filter (λ l. gives test answer (locale_number l)) locales
    → locale_numbers kept ≡ filter (λ n. gives test answer n) (locale_numbers locales)
locales-kept locales kept test answer e = ap locale_numbers e ∙ map-filter locale_number (λ n. gives test answer n) locales

pub locales-half : (locales kept : List ℕ) (test : TestOf) (answer : Bool) → IsProper (LocalesOf locales) → kept ≡ filter (λ n. gives test answer n) locales → 0 < length kept
    → IsHalfSet (LocalesOf locales) test answer (LocalesOf kept)
locales-half locales kept test answer proper e some =
    let h = numbers-half locales kept test answer (record { nonempty = proper.nonempty; rises = proper.rises }) e some in
    record { numbers = h.numbers; mark = tt; proper = record { nonempty = some; rises = h.proper.rises }; few = h.few }

-- nothing is kept
pub numbers-none : (numbers kept : List ℕ) (test : TestOf) (answer : Bool) → kept ≡ filter (λ n. gives test answer n) numbers → length kept ≡ 0 → NoneAnswers (NumbersOf numbers) test answer
numbers-none numbers kept test answer e none n is h =
    let c = kept-all (λ m. gives test answer m) n numbers is (is-gives test answer n h) in
    let there = c.1 in
    let count = ap (λ (xs : List ℕ). length xs) e in
    omega arith

pub locales-none : (locales kept : List ℕ) (test : TestOf) (answer : Bool) → kept ≡ filter (λ n. gives test answer n) locales → length kept ≡ 0 → NoneAnswers (LocalesOf locales) test answer
locales-none locales kept test answer e none = numbers-none locales kept test answer e none

-- ---- of a range

pub up_to-half : (low high most : ℕ) (c : Coord) → low ≤ high → low ≤ most → IsHalfSet (RangeOf low high) (AtMostOf c most) true (RangeOf low (min high most))
up_to-half low high most c le p = record {
  numbers = λ n. (
    λ is. ((omega (arith, is), omega (arith, is)), let q : n ≤ most = omega (arith, is) in grind (arith, nat_tests)),
    λ is. let q : n ≤ most = grind (arith, nat_tests, is.1) in (omega (arith, is.0), omega (arith, is.0)),
  );
  mark = tt;
  proper = record { nonempty = omega arith; rises = omega arith };
  few = omega arith;
}

pub behind-half : (low high most : ℕ) (c : Coord) → low ≤ high → most < high → IsHalfSet (RangeOf low high) (AtMostOf c most) false (RangeOf (max low (most + 1)) high)
behind-half low high most c le p = record {
  numbers = λ n. (
    λ is. ((omega (arith, is), omega (arith, is)), let q : most < n = omega (arith, is) in grind (arith, nat_tests)),
    λ is. let q : most < n = grind (arith, nat_tests, is.1) in (omega (arith, is.0), omega (arith, is.0)),
  );
  mark = tt;
  proper = record { nonempty = omega arith; rises = omega arith };
  few = omega arith;
}

-- ---- of a box

pub set_at-same : (sets : List SetOf) (c : Coord) (half : SetOf) → length sets ≡ 25 → set_at (set sets (place_of c) half) c ≡ half
set_at-same sets c half count = get_or-set_same sets (place_of c) half (RangeOf 0 0) (omega (arith, place_of-below c))

pub set_at-other : (sets : List SetOf) (c k : Coord) (half : SetOf) → k ≢ c → set_at (set sets (place_of c) half) k ≡ set_at sets k
set_at-other sets c k half other = get_or-set_other sets (place_of c) (place_of k) half (RangeOf 0 0) (λ e. other (place_of-injective k c e))

-- a fact of each coordinate's set
each-set : (P : Coord → SetOf → Type 0) (sets : List SetOf) (c : Coord) (half : SetOf) → length sets ≡ 25 → P c half → ((k : Coord) → P k (set_at sets k))
    → (k : Coord) → P k (set_at (set sets (place_of c) half) k)
each-set P sets c half count here others k =
    by_coord k c
    (λ e. subst (λ (j : Coord). P j (set_at (set sets (place_of c) half) j)) (sym e) (subst (λ (s : SetOf). P c s) (sym (set_at-same sets c half count)) here))
    (λ ne. subst (λ (s : SetOf). P k s) (sym (set_at-other sets c k half ne)) (others k))

pub kind-alike : (c : Coord) (a b : SetOf) → AreMarkedAlike a b → IsOfKind c a → IsOfKind c b
kind-alike coords.Locale (LocalesOf a) (LocalesOf b) m h = tt
kind-alike coords.Locale (LocalesOf a) (RangeOf x y) m h = absurd m
kind-alike coords.Locale (LocalesOf a) (NumbersOf b) m h = absurd m
kind-alike coords.Locale (RangeOf x y) b m h = absurd h
kind-alike coords.Locale (NumbersOf a) b m h = absurd h
kind-alike c (RangeOf x y) (RangeOf v w) m h = tt
kind-alike c (RangeOf x y) (NumbersOf b) m h = absurd m
kind-alike c (RangeOf x y) (LocalesOf b) m h = absurd m
kind-alike c (NumbersOf a) (NumbersOf b) m h = tt
kind-alike c (NumbersOf a) (RangeOf x y) m h = absurd m
kind-alike c (NumbersOf a) (LocalesOf b) m h = absurd m
kind-alike c (LocalesOf a) b m h = absurd h

pub half-box : (sets : List SetOf) (test : TestOf) (answer : Bool) (half : SetOf) → IsBox sets → IsHalfSet (set_at sets (coord_of test)) test answer half
    → IsBox (set sets (place_of (coord_of test)) half)
half-box sets test answer half b h =
    let c = coord_of test in
    let before = b.each c in
    let now : IsSetAt c half = record {
      proper = h.proper;
      kind = kind-alike c (set_at sets c) half h.mark before.kind;
      few = let fewer = h.few in let few = before.few in omega arith;
      can = λ n is. before.can n ((h.numbers n).0 is).0;
    } in
    record { count = length-set sets (place_of c) half ∙ b.count; each = each-set IsSetAt sets c half b.count now b.each }

pub marks-self : (s : SetOf) → AreMarkedAlike s s
marks-self (RangeOf a b) = tt
marks-self (NumbersOf a) = tt
marks-self (LocalesOf a) = tt

pub half-members : (sets : List SetOf) (test : TestOf) (answer : Bool) (half : SetOf) → IsBox sets → IsHalfSet (set_at sets (coord_of test)) test answer half
    → IsHalf sets test answer (set sets (place_of (coord_of test)) half)
half-members sets test answer half b h =
    let c = coord_of test in
    record {
      is_box = half-box sets test answer half b h;
      members = λ d. (
        λ member.
            let here : IsIn half (device_number d c) = subst (λ (s : SetOf). IsIn s (device_number d c)) (set_at-same sets c half b.count) (member c) in
            let r = (h.numbers (device_number d c)).0 here in record {
              member = λ k. by_coord k c
                  (λ e. subst (λ (j : Coord). IsIn (set_at sets j) (device_number d j)) (sym e) r.0)
                  (λ ne. subst (λ (s : SetOf). IsIn s (device_number d k)) (set_at-other sets c k half ne) (member k));
              answers = r.1;
            },
        λ both. each-set (λ k s. IsIn s (device_number d k)) sets c half b.count ((h.numbers (device_number d c)).1 (both.member c, both.answers)) both.member,
      );
      marks = λ k. by_coord k c
          (λ e. subst (λ (j : Coord). AreMarkedAlike (set_at sets j) (set_at (set sets (place_of c) half) j)) (sym e)
          (subst (λ (s : SetOf). AreMarkedAlike (set_at sets c) s) (sym (set_at-same sets c half b.count)) h.mark))
          (λ ne. subst (λ (s : SetOf). AreMarkedAlike (set_at sets k) s) (sym (set_at-other sets c k half ne)) (marks-self (set_at sets k)));
    }

-- ---- a test that is of no wrong kind

askable-at_most : (s : SetOf) (c : Coord) (most : ℕ) → IsAskable s (AtMostOf c most)
askable-at_most (RangeOf low high) c most = tt
askable-at_most (NumbersOf numbers) c most = tt
askable-at_most (LocalesOf numbers) c most = tt

askable-among : (s : SetOf) (c : Coord) (choice : ChoiceOf) → is_range s ≡ false → IsAskable s (AmongOf c choice)
askable-among (RangeOf low high) c choice e = absurd cc
askable-among (NumbersOf numbers) c choice e = tt
askable-among (LocalesOf numbers) c choice e = tt

pub askable : (sets : List SetOf) (test : TestOf) → has_wrong_kind sets test ≡ false → IsAskable (set_at sets (coord_of test)) test
unfolding has_wrong_kind
askable sets (AtMostOf c most) e = askable-at_most (set_at sets c) c most
askable sets (AmongOf c choice) e = askable-among (set_at sets c) c choice e

-- all answer alike where no number gives the other answer
pub all-answer_no : (sets : List SetOf) (test : TestOf) → NoneAnswers (set_at sets (coord_of test)) test true → AllAnswer (IsMember sets) (answers test) false
all-answer_no sets test none d member = false_from_ne_true (passes test (device_number d (coord_of test))) (none (device_number d (coord_of test)) (member (coord_of test)))

pub all-answer_yes : (sets : List SetOf) (test : TestOf) → NoneAnswers (set_at sets (coord_of test)) test false → AllAnswer (IsMember sets) (answers test) true
all-answer_yes sets test none d member = true_from_ne_false (passes test (device_number d (coord_of test))) (none (device_number d (coord_of test)) (member (coord_of test)))
