-- The numbers that are left at one coordinate behind tests of it, and the runs along them.
use Rattle.std.proofs.Common.{◌≡◌, ◌≢◌, ℕ, ◌+◌, ◌-◌, ◌≤◌, ◌⊎◌, inl, inr, arith, List, [], ◌∷◌, map, Bool, true, false, not, filter, sym, ◌∙◌, ap, refl}
use Rattle.std.specs.Prelude.{nat_le}
use Rattle.std.proofs.lemmas.Bool.{cases_lt, not-true, not-false, leb-true, leb-false, le-leb, lt-leb}
use Rattle.cert_checker.specs.config_record.ComparedNumber.{device_number}
use Rattle.cert_checker.specs.reference_resolver.Trace.{Trace}
use Rattle.cert_checker.specs.box_answers.NumberSet.{SetOf, RangeOf, NumbersOf, LocalesOf, IsIn}
use Rattle.cert_checker.specs.config_box.Tests.{TestOf, AtMostOf, AmongOf, coord_of, is_listed, answers, is_range}
use Rattle.cert_checker.specs.Paths.{Path}
use Rattle.cert_maker.specs.Runs.{changes, different, runs}
use Rattle.cert_checker.proofs.config_box.Filters.{Among, among, contained, among-kept, kept-among}
use Rattle.cert_maker.proofs.Different.{fails, find, map-among, different-le, different-eq, different-some, different-one}
use Rattle.cert_maker.proofs.Changes.{change-most, change-one, changes-at, changes-same}

-- ---- a test at a number of its coordinate

abbrev pub takes : TestOf → ℕ → Bool
takes (AtMostOf c most) n = nat_le n most
takes (AmongOf c choice) n = is_listed c choice n

pub answers-takes : (test : TestOf) (d : List ℕ) → answers test d ≡ takes test (device_number d (coord_of test))
answers-takes (AtMostOf c most) d = refl
answers-takes (AmongOf c choice) d = refl

-- ---- the numbers that are left

pub data Kept : Type 0 where
  between : ℕ → ℕ → Kept
  chosen : List ℕ → Kept

abbrev pub kept : SetOf → Kept
kept (RangeOf low high) = between low high
kept (NumbersOf numbers) = chosen numbers
kept (LocalesOf numbers) = chosen numbers

abbrev pub In : Kept → ℕ → Type 0
In (between low high) n = (low ≤ n) × (n ≤ high)
In (chosen ns) n = Among n ns

pub in-set : (set : SetOf) (n : ℕ) → In (kept set) n → IsIn set n
in-set (RangeOf low high) n is = is
in-set (NumbersOf numbers) n is = contained n numbers is
in-set (LocalesOf numbers) n is = contained n numbers is

pub set-in : (set : SetOf) (n : ℕ) → IsIn set n → In (kept set) n
set-in (RangeOf low high) n is = is
set-in (NumbersOf numbers) n is = among n numbers is
set-in (LocalesOf numbers) n is = among n numbers is

abbrev pub is_between : Kept → Bool
is_between (between low high) = true
is_between (chosen ns) = false

abbrev pub half : Kept → TestOf → Bool → Kept
half (between low high) (AtMostOf c m) true = between low m
half (between low high) (AtMostOf c m) false = between (m + 1) high
half (between low high) (AmongOf c choice) answer = between low high
half (chosen ns) test true = chosen (filter (takes test) ns)
half (chosen ns) test false = chosen (filter (fails (takes test)) ns)

abbrev pub at_path : Kept → Path → Kept
at_path k [] = k
at_path k (step ∷ path) = half (at_path k path) step.0 step.1

mark-half : (k : Kept) (test : TestOf) (answer : Bool) → is_between (half k test answer) ≡ is_between k
mark-half (between low high) (AtMostOf c m) true = refl
mark-half (between low high) (AtMostOf c m) false = refl
mark-half (between low high) (AmongOf c choice) answer = refl
mark-half (chosen ns) test true = refl
mark-half (chosen ns) test false = refl

mark-kept : (set : SetOf) → is_between (kept set) ≡ is_range set
mark-kept (RangeOf low high) = refl
mark-kept (NumbersOf numbers) = refl
mark-kept (LocalesOf numbers) = refl

pub mark-path : (set : SetOf) (path : Path) → is_between (at_path (kept set) path) ≡ is_range set
mark-path set [] = mark-kept set
mark-path set (step ∷ path) = mark-half (at_path (kept set) path) step.0 step.1 ∙ mark-path set path

-- a test that can be asked of what is left
abbrev pub Fits : Kept → TestOf → Type 0
Fits k (AtMostOf c m) = Unit {0}
Fits k (AmongOf c choice) = is_between k ≡ false

-- numbers on both sides of a test
pub record Both (k : Kept) (test : TestOf) : Type 0 where
  pub low : ℕ
  pub high : ℕ
  pub low_in : In k low
  pub high_in : In k high
  pub low_takes : takes test low ≡ true
  pub high_fails : takes test high ≡ false

-- the two halves of what is left, by the numbers
pub half-in : (k : Kept) (test : TestOf) (answer : Bool) → Fits k test → Both k test → (n : ℕ) → In (half k test answer) n → In k n × (takes test n ≡ answer)
half-in (between low high) (AtMostOf c m) true fits h n is =
    let a = leb-false h.high m h.high_fails in
    let i = h.high_in in
    ((is.0, omega (arith, a, i.1, is.1)), le-leb n m is.1)
half-in (between low high) (AtMostOf c m) false fits h n is =
    let a = leb-true h.low m h.low_takes in
    let i = h.low_in in
    ((omega (arith, a, i.0, is.0), is.1), lt-leb n m (omega (arith, is.0)))
half-in (between low high) (AmongOf c choice) answer fits h n is = absurd (cc fits)
half-in (chosen ns) test true fits h n is = among-kept (takes test) n ns is
half-in (chosen ns) test false fits h n is = let r = among-kept (fails (takes test)) n ns is in (r.0, not-true (takes test n) r.1)

pub in-half : (k : Kept) (test : TestOf) (answer : Bool) → Fits k test → (n : ℕ) → In k n → takes test n ≡ answer → In (half k test answer) n
in-half (between low high) (AtMostOf c m) true fits n is e = (is.0, leb-true n m e)
in-half (between low high) (AtMostOf c m) false fits n is e = let a = leb-false n m e in (omega arith, is.1)
in-half (between low high) (AmongOf c choice) answer fits n is e = absurd (cc fits)
in-half (chosen ns) test true fits n is e = kept-among (takes test) n ns is e
in-half (chosen ns) test false fits n is e = kept-among (fails (takes test)) n ns is (ap not e)

-- a number that answers yes, or none does
pub some-takes : (k : Kept) (test : TestOf) → Fits k test → (s : ℕ) → In k s → ((n : ℕ) × In k n × (takes test n ≡ true)) ⊎ ((n : ℕ) → In k n → takes test n ≡ false)
some-takes (between low high) (AtMostOf c m) fits s is =
    elim (cases_lt m low) [
      | inl lt ↦ inr (λ n a. lt-leb n m (omega (arith, a.0)))
      | inr le ↦ inl (low, (omega arith, omega (arith, is.0, is.1)), le-leb low m le)
    ]
some-takes (between low high) (AmongOf c choice) fits s is = absurd (cc fits)
some-takes (chosen ns) test fits s is = find (takes test) ns

pub some-fails : (k : Kept) (test : TestOf) → Fits k test → (s : ℕ) → In k s → ((n : ℕ) × In k n × (takes test n ≡ false)) ⊎ ((n : ℕ) → In k n → takes test n ≡ true)
some-fails (between low high) (AtMostOf c m) fits s is =
    elim (cases_lt m high) [
      | inl lt ↦ inl (high, (omega (arith, is.0, is.1), omega arith), lt-leb high m lt)
      | inr le ↦ inr (λ n a. le-leb n m (omega (arith, a.1)))
    ]
some-fails (between low high) (AmongOf c choice) fits s is = absurd (cc fits)
some-fails (chosen ns) test fits s is =
    elim (find (fails (takes test)) ns) [
      | inl h ↦ inl (h.0, h.1, not-true (takes test h.0) h.2)
      | inr none ↦ inr (λ n a. not-false (takes test n) (none n a))
    ]

-- ---- runs

abbrev pub spread : (ℕ → Trace) → Kept → ℕ
spread t (between low high) = 1 + changes t low (high - low)
spread t (chosen ns) = different (map t ns)

pub spread-runs : (t : ℕ → Trace) (set : SetOf) → spread t (kept set) ≡ runs t set
spread-runs t (RangeOf low high) = refl
spread-runs t (NumbersOf numbers) = refl
spread-runs t (LocalesOf numbers) = refl

-- a test leaves no fewer on its two sides
pub spread-le : (t : ℕ → Trace) (k : Kept) (test : TestOf) → Fits k test → Both k test → spread t k ≤ spread t (half k test true) + spread t (half k test false)
spread-le t (between low high) (AtMostOf c m) fits h =
    let a = leb-false h.high m h.high_fails in
    let b = leb-true h.low m h.low_takes in
    let i = h.high_in in
    let j = h.low_in in
    let s = changes-at t low m high (omega (arith, b, j.0)) (omega (arith, a, i.1)) in
    let l = change-most t m in
    omega (arith, s, l)
spread-le t (between low high) (AmongOf c choice) fits h = absurd (cc fits)
spread-le t (chosen ns) test fits h = different-le t (takes test) ns

-- what makes a test needed, by the numbers at its coordinate
abbrev pub Cuts : (ℕ → Trace) → Kept → TestOf → Type 0
Cuts t (between low high) (AtMostOf c m) = t m ≢ t (m + 1)
Cuts t (between low high) (AmongOf c choice) = Unit {0}
Cuts t (chosen ns) test = (m n : ℕ) → Among m ns → Among n ns → takes test m ≡ true → takes test n ≡ false → t m ≢ t n

-- a needed test leaves no more
pub spread-eq : (t : ℕ → Trace) (k : Kept) (test : TestOf) → Fits k test → Both k test → Cuts t k test → spread t k ≡ spread t (half k test true) + spread t (half k test false)
spread-eq t (between low high) (AtMostOf c m) fits h cuts =
    let a = leb-false h.high m h.high_fails in
    let b = leb-true h.low m h.low_takes in
    let i = h.high_in in
    let j = h.low_in in
    let s = changes-at t low m high (omega (arith, b, j.0)) (omega (arith, a, i.1)) in
    let l = change-one t m cuts in
    omega (arith, s, l)
spread-eq t (between low high) (AmongOf c choice) fits h cuts = absurd (cc fits)
spread-eq t (chosen ns) test fits h cuts = different-eq t (takes test) ns cuts

-- where there is a number, there is a run
pub spread-some : (t : ℕ → Trace) (k : Kept) (n : ℕ) → In k n → 1 ≤ spread t k
spread-some t (between low high) n is = omega arith
spread-some t (chosen ns) n is = different-some (t n) (map t ns) (map-among t n ns is)

all-same : (t : ℕ → Trace) (w : Trace) (ns : List ℕ) → ((n : ℕ) → Among n ns → t n ≡ w) → (z : Trace) → Among z (map t ns) → z ≡ w
all-same t w [] f z a = absurd a
all-same t w (n ∷ ns) f z (inl e) = sym e ∙ f n (inl refl)
all-same t w (n ∷ ns) f z (inr a) = all-same t w ns (λ m b. f m (inr b)) z a

-- where there is one trace, there is one at most
pub spread-one : (t : ℕ → Trace) (k : Kept) (w : Trace) → ((n : ℕ) → In k n → t n ≡ w) → (s : ℕ) → In k s → spread t k ≤ 1
spread-one t (between low high) w f s is =
    let h = changes-same t low (high - low) w (λ n a b. f n (a, omega (arith, is.0, is.1))) in
    omega (arith, h)
spread-one t (chosen ns) w f s is = different-one w (map t ns) (all-same t w ns f)
