-- The values of a choice with which the first member of a parting answers yes.
use Rattle.std.proofs.Common.{◌≡◌, ◌≢◌, ℕ, inl, inr, arith, ◌≤◌, List, [], ◌∷◌, set, length, filter, get_or, Bool, true, false, sym, ◌∙◌, ap, refl, subst}
use Rattle.std.specs.Prelude.{◌==◌, ◌&&◌, Contains}
use Rattle.std.specs.List.{All, list_any}
use Rattle.std.proofs.lemmas.Bool.{cases_Bool, eq-eqb, eqb-true}
use Rattle.std.proofs.lemmas.List.{get_or-map, length-map}
use Rattle.std.proofs.lemmas.List.Elements.{All-cons, All-head, All-tail}
use Rattle.std.proofs.lemmas.List.Folds.{list_any_at}
use Rattle.std.proofs.lemmas.List.Sums.{length-filter, count_by-le-length}
use Rattle.std.proofs.lemmas.Map.Views.{any-filter_same}
use Rattle.cert_checker.specs.config_record.declared.coord.Coord as coord
use Rattle.cert_checker.specs.config_record.declared.coord.Coord.TheVariants as coords
use Rattle.cert_checker.specs.config_record.locales.declared.locale.Locale.{Locale}
use Rattle.cert_checker.specs.config_record.ComparedNumber.{device_number}
use Rattle.cert_checker.specs.config_record.locales.LocaleNumber.{locale_number, locale_of_number}
use Rattle.cert_checker.specs.config_record.locales.declared.locale_rule.LocaleRule.{LocaleRule}
use Rattle.cert_checker.specs.config_record.locales.LocaleRule.{rule_of}
use Rattle.cert_checker.specs.config_record.locales.Text.{IsGiven, IsGivenBy}
use Rattle.cert_checker.specs.config_record.Coord.{place_of}
use Rattle.cert_checker.proofs.config_record.ChangedNumber.{by_coord, number_at-set_same, number_at-set_other}
use Rattle.cert_checker.specs.config_record.Device.{CanHave}
use Rattle.cert_checker.specs.box_trace.declared.parting.Parting.{Parting}
use Rattle.cert_checker.specs.box_trace.Parting.{answer_of}
use Rattle.cert_checker.specs.box_answers.Sameness.{Separates}
use Rattle.cert_checker.specs.box_answers.NumberSet.{SetOf, RangeOf, NumbersOf, LocalesOf, IsIn, named_numbers, locale_numbers}
use Rattle.cert_checker.specs.box_answers.Members.{set_at, IsMember, IsOfKind, IsBox}
use Rattle.cert_checker.specs.config_box.Tests.{is_listed, is_range, has_wrong_kind}
use Rattle.cert_checker.specs.config_box.Tests as seen
use Rattle.cert_checker.specs.config_box.ByRule.{IsByRule}
use Rattle.cert_checker.specs.cert_tree.Certificate.{TestAt, ChoiceFits}
use Rattle.cert_checker.proofs.box_trace.BoxValues.{can-have-locales}
use Rattle.cert_maker.specs.Needed.{AgreeBut, IsNeededTest}
use Rattle.cert_checker.proofs.config_box.Filters.{map-filter}
use Rattle.cert_maker.specs.FitsBox.{FitsBox}
use Rattle.cert_maker.specs.Listed.{numbers_of, answer_with, answer_in}
use Rattle.cert_maker.proofs.ByNumbers.{parting-by-numbers}
use Rattle.cert_maker.proofs.Cut.{numbers-count, number-kept, on-line, ListsYes, cut-choice}

-- a changed device answers as x does with its number
pub changed-answers : (parting : Parting) (x z : List ℕ) (c : coord.Coord) (n : ℕ) → device_number z c ≡ n → AgreeBut c z x → answer_of parting z ≡ answer_with (answer_of parting) x c n
changed-answers parting x z c n here others =
    on-line (answer_of parting) c x z (parting-by-numbers parting) others ∙ ap (answer_with (answer_of parting) x c) here

-- ---- which are listed

-- a number of a list is kept by a filter just where it passes
listed-filter : (f : ℕ → Bool) (n : ℕ) (ms : List ℕ) → Contains ms n → list_any (λ m. m == n) (filter f ms) ≡ f n
listed-filter f n ms c =
    let stands : list_any (λ m. m == n) ms ≡ true = list_any_at (λ m. m == n) ms c.0 n c.1 (eq-eqb (get_or ms c.0 n) n c.2) in
    let kept : list_any (λ m. m == n) (filter f ms) ≡ (f n && list_any (λ m. m == n) ms) = any-filter_same (λ m. m == n) f (f n) (λ m same. ap f (eqb-true m n same)) ms in
    kept ∙ elim (cases_Bool (f n)) [ inl is ↦ rw is stands | inr isnt ↦ rw isnt refl ]

-- ---- numbers stand anywhere but at the locale, and locales there

no-numbers : (c : coord.Coord) (set : SetOf) (numbers : List ℕ) → set ≡ NumbersOf numbers → IsOfKind c set → c ≢ coords.Locale
no-numbers c set numbers e kind is = subst (λ (s : SetOf). IsOfKind coords.Locale s) e (subst (λ (k : coord.Coord). IsOfKind k set) is kind)

numbers-listed : (c : coord.Coord) (kept : List ℕ) (n : ℕ) → c ≢ coords.Locale → is_listed c (seen.NumbersOf kept) n ≡ list_any (λ m. m == n) kept
unfolding is_listed
numbers-listed coords.Locale kept n other = absurd (other refl)
numbers-listed c kept n other = refl

locales-listed : (kept : List Locale) (n : ℕ) → is_listed coords.Locale (seen.LocalesOf kept) n ≡ list_any (λ m. m == n) (locale_numbers kept)
unfolding is_listed
locales-listed kept n = refl

lists-numbers : (answer : List ℕ → Bool) (sets : List SetOf) (x : List ℕ) (c : coord.Coord) (numbers kept : List ℕ) → IsOfKind c (set_at sets c) → set_at sets c ≡ NumbersOf numbers → kept ≡ filter (answer_with answer x c) numbers
    → ListsYes answer sets x c (seen.NumbersOf kept)
lists-numbers answer sets x c numbers kept kind e is n in_set =
    let a : Contains numbers n = subst (λ (s : SetOf). IsIn s n) e in_set in
    numbers-listed c kept n (no-numbers c (set_at sets c) numbers e kind) ∙ ap (list_any (λ m. m == n)) is ∙ listed-filter (answer_with answer x c) n numbers a

only-locales : (c : coord.Coord) (numbers : List ℕ) → IsOfKind c (LocalesOf numbers) → c ≡ coords.Locale
only-locales coords.Locale numbers kind = refl
only-locales c numbers kind = absurd kind

at-locale : (sets : List SetOf) (c : coord.Coord) (numbers : List ℕ) → IsOfKind c (set_at sets c) → set_at sets c ≡ LocalesOf numbers → c ≡ coords.Locale
at-locale sets c numbers kind e = only-locales c numbers (subst (λ (s : SetOf). IsOfKind c s) e kind)

lists-locales : (answer : List ℕ → Bool) (sets : List SetOf) (x : List ℕ) (c : coord.Coord) (locales kept : List Locale) → IsOfKind c (set_at sets c) → set_at sets c ≡ LocalesOf (locale_numbers locales)
    → kept ≡ filter (answer_in answer x) locales → ListsYes answer sets x c (seen.LocalesOf kept)
lists-locales answer sets x c locales kept kind e is n in_set =
    let a : Contains (locale_numbers locales) n = subst (λ (s : SetOf). IsIn s n) e in_set in
    let at = at-locale sets c (locale_numbers locales) kind e in
    ap (λ k. is_listed k (seen.LocalesOf kept) n) at ∙ locales-listed kept n ∙ ap (λ ls. list_any (λ m. m == n) (locale_numbers ls)) is
    ∙ ap (list_any (λ m. m == n)) (map-filter locale_number (answer_with answer x coords.Locale) locales) ∙ listed-filter (answer_with answer x coords.Locale) n (locale_numbers locales) a
    ∙ ap (λ k. answer_with answer x k n) (sym at)

-- ---- they can be written

pub can-locales : (sets : List SetOf) (c : coord.Coord) (locales : List Locale) → IsBox sets → LocalesOf (locale_numbers locales) ≡ set_at sets c
    → All (λ locale. IsGiven (locale_of_number (locale_number locale))) locales
can-locales sets c locales b e k locale q =
    subst (λ (at : coord.Coord). CanHave at (locale_number (get_or locales k locale))) (at-locale sets c (locale_numbers locales) (b.each c).kind (sym e)) (can-have-locales sets c locales b e k locale q)

pub numbers-fit : (sets : List SetOf) (c : coord.Coord) (f : ℕ → Bool) (numbers kept : List ℕ) → IsBox sets → NumbersOf numbers ≡ set_at sets c → kept ≡ filter f numbers → FitsBox sets (TestAt (seen.AmongOf c (seen.NumbersOf kept)))
numbers-fit sets c f numbers kept b e is rule by =
    let few : length numbers ≤ 512 = subst (λ (s : SetOf). length (named_numbers s) ≤ 512) (sym e) (b.each c).few in
    let count : length kept ≤ length numbers = omega (arith, ap length is, length-filter f numbers, count_by-le-length f numbers) in
    at c (no-numbers c (set_at sets c) numbers (sym e) (b.each c).kind) (omega (arith, few, count))
  where
    at : (k : coord.Coord) → k ≢ coords.Locale → length kept ≤ 512 → ChoiceFits rule k (seen.NumbersOf kept)
    at coords.Locale other h = absurd (other refl)
    at k other h = h

-- with a locale of the box in its place a member is still one, so that its rule is that of the box
of-rule : (rule : LocaleRule) (sets : List SetOf) (x : List ℕ) (n : ℕ) → IsMember sets x → IsIn (set_at sets coords.Locale) n → IsByRule rule sets → rule_of (locale_of_number n) ≡ rule
of-rule rule sets x n member is by =
    let z = set (numbers_of x) (place_of coords.Locale) n in
    let here : device_number z coords.Locale ≡ n = number_at-set_same (numbers_of x) coords.Locale n (numbers-count x) in
    let changed : IsMember sets z = λ k. by_coord k coords.Locale
    (λ at. subst (λ (c : coord.Coord). IsIn (set_at sets c) (device_number z c)) (sym at) (subst (IsIn (set_at sets coords.Locale)) (sym here) is))
    (λ other. subst (IsIn (set_at sets k)) (sym (number_at-set_other (numbers_of x) coords.Locale k n other ∙ number-kept x k)) (member k)) in
    ap (λ (m : ℕ). rule_of (locale_of_number m)) (sym here) ∙ by z changed

all-filter : {X : Type 0} (P : X → Type 0) (f : X → Bool) (xs : List X) → All P xs → All P (filter f xs)
all-filter P f [] all = all
all-filter P f (x ∷ xs) all = elim (cases_Bool (f x)) [
  | inl kept ↦ rw kept (All-cons P x (filter f xs) (All-head P x xs all) (all-filter P f xs (All-tail P x xs all)))
  | inr left ↦ rw left (all-filter P f xs (All-tail P x xs all))
]

pub locales-fit : (sets : List SetOf) (x : List ℕ) (c : coord.Coord) (f : Locale → Bool) (locales kept : List Locale) → IsBox sets → IsMember sets x → LocalesOf (locale_numbers locales) ≡ set_at sets c → kept ≡ filter f locales
    → All (λ locale. locale_of_number (locale_number locale) ≡ locale) kept → FitsBox sets (TestAt (seen.AmongOf c (seen.LocalesOf kept)))
locales-fit sets x c f locales kept b member e is back rule by =
    let few : length (locale_numbers locales) ≤ 512 = subst (λ (s : SetOf). length (named_numbers s) ≤ 512) (sym e) (b.each c).few in
    let of_numbers = length-map locales locale_number in
    let count : length kept ≤ length locales = omega (arith, ap length is, length-filter f locales, count_by-le-length f locales) in
    let at = at-locale sets c (locale_numbers locales) (b.each c).kind (sym e) in
    let by_number : Locale → Type 0 = λ locale. IsGivenBy rule (locale_of_number (locale_number locale)) in
    let each : All by_number locales = λ k locale q.
    let n = locale_number (get_or locales k locale) in
    let there : IsIn (set_at sets c) n = subst (λ (s : SetOf). IsIn s n) e (k, omega (arith, of_numbers, q), get_or-map locale_number locales k locale n q) in
    let here : IsIn (set_at sets coords.Locale) n = subst (λ (k : coord.Coord). IsIn (set_at sets k) n) at there in
    subst (λ (r : LocaleRule). IsGivenBy r (locale_of_number n)) (of-rule rule sets x n member here by) (can-locales sets c locales b e k locale q) in
    let passed : All by_number kept = subst (All by_number) (sym is) (all-filter by_number f locales each) in
    let all : All (IsGivenBy rule) kept = λ k locale q. subst (IsGivenBy rule) (back k locale q) (passed k locale q) in
    subst (λ (k : coord.Coord). ChoiceFits rule k (seen.LocalesOf kept)) (sym at) (omega (arith, few, of_numbers, count), all)

-- ---- the tests are of the right kind

no-range : (set : SetOf) → IsOfKind coords.Locale set → is_range set ≡ true → ⊥
no-range (RangeOf low high) kind range = kind
no-range (NumbersOf numbers) kind range = kind
no-range (LocalesOf numbers) kind range = cc

pub not-locale : (sets : List SetOf) (c : coord.Coord) → IsOfKind c (set_at sets c) → is_range (set_at sets c) ≡ true → c ≢ coords.Locale
not-locale sets c kind range is = no-range (set_at sets c) (subst (λ (k : coord.Coord). IsOfKind k (set_at sets c)) is kind) range

pub right-range : (sets : List SetOf) (c : coord.Coord) (m : ℕ) → IsOfKind c (set_at sets c) → is_range (set_at sets c) ≡ true → has_wrong_kind sets (seen.AtMostOf c m) ≡ false
unfolding has_wrong_kind
right-range sets coords.Locale m kind range = absurd (no-range (set_at sets coords.Locale) kind range)
right-range sets c m kind range = refl

right-choice : (sets : List SetOf) (c : coord.Coord) (choice : seen.ChoiceOf) → is_range (set_at sets c) ≡ false → has_wrong_kind sets (seen.AmongOf c choice) ≡ false
unfolding has_wrong_kind
right-choice sets c choice no_range = no_range

-- ---- so the tests are needed

pub needed-numbers : (parting : Parting) (sets : List SetOf) (x y : List ℕ) (c : coord.Coord) (numbers kept : List ℕ) → Separates sets (answer_of parting) x y c → IsBox sets → NumbersOf numbers ≡ set_at sets c
    → kept ≡ filter (answer_with (answer_of parting) x c) numbers → IsNeededTest (answer_of parting) sets (IsMember sets) (seen.AmongOf c (seen.NumbersOf kept))
needed-numbers parting sets x y c numbers kept s b e is =
    let choice = seen.NumbersOf kept in
    cut-choice (answer_of parting) sets x y c choice (parting-by-numbers parting) s (right-choice sets c choice (ap is_range (sym e))) (lists-numbers (answer_of parting) sets x c numbers kept (b.each c).kind (sym e) is)

pub needed-locales : (parting : Parting) (sets : List SetOf) (x y : List ℕ) (c : coord.Coord) (locales kept : List Locale) → Separates sets (answer_of parting) x y c → IsBox sets
    → LocalesOf (locale_numbers locales) ≡ set_at sets c → kept ≡ filter (answer_in (answer_of parting) x) locales → IsNeededTest (answer_of parting) sets (IsMember sets) (seen.AmongOf c (seen.LocalesOf kept))
needed-locales parting sets x y c locales kept s b e is =
    let choice = seen.LocalesOf kept in
    cut-choice (answer_of parting) sets x y c choice (parting-by-numbers parting) s (right-choice sets c choice (ap is_range (sym e))) (lists-locales (answer_of parting) sets x c locales kept (b.each c).kind (sym e) is)
