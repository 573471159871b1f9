-- A device is the list of its numbers, one for each coordinate.
use Rattle.std.proofs.Common.{◌≡◌, ◌≢◌, ℕ, zero, suc, ◌+◌, ◌<◌, ◌==◌, None, Result, Ok, inl, inr, subst, eqb-true, List, [], ◌∷◌, length, map, drop, get_or, refl, sym, ap, ◌∙◌, arith}
use Rattle.std.proofs.lemmas.Bool.{cases_Bool}
use Rattle.std.proofs.lemmas.List.{drop_more, drop_all}
use Rattle.std.proofs.lemmas.List.{length-set}
use Rattle.config_record.specs.declared.coord.Coord.{Coord}
use Rattle.config_record.specs.declared.coord.Coord.TheVariants as coords
use Rattle.config_record.specs.locales.declared.locale.Locale.{Locale}
use Rattle.config_record.specs.locales.LocaleNumber.{locale_number}
use Rattle.config_record.specs.Coord.{all_coords, place_of, number_at}
use Rattle.config_record.proofs.ChangedNumber.{by_coord, number_at-set_same, number_at-set_other}
use Rattle.config_record.proofs.DeviceLemmas.{coordinate-at_place, place_of-within}
use Rattle.notation.specs.Config.{with_locale}
use Rattle.notation.specs.Fault.{FaultOf}
use Rattle.notation.specs.Line.{first_unlike}

-- the numbers from a place on, so many of them
numbers_from : ℕ → ℕ → List ℕ → List ℕ
numbers_from place zero numbers = []
numbers_from place (suc count) numbers = get_or numbers place 0 ∷ numbers_from (place + 1) count numbers

all_from : (place count : ℕ) (numbers : List ℕ) → length numbers ≡ place + count → drop place numbers ≡ numbers_from place count numbers
unfolding numbers_from
all_from place zero numbers count = drop_all place numbers (omega (arith, count))
all_from place (suc left) numbers count =
    drop_more numbers place 0 (omega (arith, count)) ∙ ap (λ (rest : List ℕ). get_or numbers place 0 ∷ rest) (all_from (place + 1) left numbers (omega (arith, count)))

at_coords : (numbers : List ℕ) → numbers_from 0 25 numbers ≡ map (number_at numbers) all_coords
unfolding all_coords place_of numbers_from
at_coords numbers = refl

same_each : (f g : Coord → ℕ) (cs : List Coord) → ((c : Coord) → f c ≡ g c) → map f cs ≡ map g cs
same_each f g [] same = refl
same_each f g (c ∷ cs) same = rw (same c, same_each f g cs same) refl

pub of_coords : (numbers : List ℕ) → length numbers ≡ 25 → map (number_at numbers) all_coords ≡ numbers
of_coords numbers count = sym (all_from 0 25 numbers count ∙ at_coords numbers)

same_numbers : (one other : List ℕ) → length one ≡ 25 → length other ≡ 25 → ((c : Coord) → number_at one c ≡ number_at other c) → one ≡ other
same_numbers one other first second same =
    sym (of_coords one first) ∙ same_each (number_at one) (number_at other) all_coords same ∙ of_coords other second

pub located : (old new : List ℕ) (locale : Locale) → length old ≡ 25 → length new ≡ 25 → number_at new coords.Locale ≡ locale_number locale
    → ((c : Coord) → c ≢ coords.Locale → number_at new c ≡ number_at old c) → new ≡ with_locale locale old
located old new locale first second at others =
    same_numbers new (with_locale locale old) second (length-set old (place_of coords.Locale) (locale_number locale) ∙ first) (λ c.
    by_coord c coords.Locale
    (λ e. rw e (at ∙ sym (number_at-set_same old coords.Locale (locale_number locale) first)))
    (λ other. others c other ∙ sym (number_at-set_other old coords.Locale c (locale_number locale) other)))

-- ---- a line that reads nowhere otherwise than a device

unlike-none : (cs : List Coord) (read device : List ℕ) (i : ℕ) (d : Coord) → first_unlike cs read device ≡ None → i < length cs
    → number_at read (get_or cs i d) ≡ number_at device (get_or cs i d)
unfolding first_unlike
unlike-none [] read device i d none on = absurd (omega arith)
unlike-none (c ∷ cs) read device zero d none on = elim (cases_Bool (number_at read c == number_at device c)) [
  | inl same ↦ eqb-true (number_at read c) (number_at device c) same
  | inr other ↦ let no_coord = rw other at none in absurd cc
]
unlike-none (c ∷ cs) read device (suc i) d none on = elim (cases_Bool (number_at read c == number_at device c)) [
  | inl same ↦ unlike-none cs read device i d (rw same at none) (omega (arith, on))
  | inr other ↦ let no_coord = rw other at none in absurd cc
]

pub all_said : (read device : List ℕ) → None ≡ first_unlike all_coords read device → length read ≡ 25 → length device ≡ 25
    → ◌≡◌ {A = Result (List ℕ) FaultOf} (Ok read) (Ok device)
all_said read device none long count =
    let wrapped : List ℕ → Result (List ℕ) FaultOf = λ numbers. Ok numbers in
    ap wrapped (same_numbers read device long count (λ c.
    subst (λ (k : Coord). number_at read k ≡ number_at device k) (coordinate-at_place c)
    (unlike-none all_coords read device (place_of c) coords.Mcc (sym none) (place_of-within c))))
