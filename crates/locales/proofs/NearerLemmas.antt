-- Of two different regions at most one is nearer.
use Rattle.std.proofs.Common.{◌≡◌, ◌≢◌, ℕ, ◌+◌, ◌==◌, ◌&&◌, ◌||◌, not, nat_lt, Bool, true, false, cond, if◌then◌else◌, List, [], ◌∷◌, Option, Some, None, refl, sym, ap, ◌∙◌, inl, inr, arith, eqb-true, eq-eqb}
use Rattle.std.specs.Option.{option_map_or}
use Rattle.std.proofs.lemmas.Bool.{cases_eq, ne_eqb}
use Rattle.std.proofs.lemmas.Bool.Decides.{nat_tests}
use Rattle.locales.specs.Facts.{language_of, region_of, is_representative_of}
use Rattle.locales.specs.Line.{line_of, first_met}
use Rattle.locales.specs.declared.compared.DeviceLocale.{DeviceLocale}
use Rattle.locales.specs.Words.{exactly_one, locale_of_device}
use Rattle.locales.specs.Nearer.{latin_american, is_special_spanish, stand_in, distance, is_nearer_aside, is_nearer_locale, is_nearer_of}

-- ---- of two that differ the stand-ins differ too

abbrev stood_in : ℕ → Bool → Bool → ℕ → ℕ → ℕ
stood_in latin one other x y = if one && not other && not (y == latin) then latin else x

stood_in-apart : (latin : ℕ) (one other : Bool) (x y : ℕ) → x ≢ y → stood_in latin one other x y ≢ stood_in latin other one y x
stood_in-apart latin true true x y apart = apart
stood_in-apart latin false false x y apart = apart
stood_in-apart latin true false x y apart = elim (cases_eq y latin) [
  | inl is ↦ rw (eq-eqb y latin is) apart
  | inr other ↦ rw (ne_eqb y latin other) (λ same. other (sym same))
]
stood_in-apart latin false true x y apart = elim (cases_eq x latin) [
  | inl is ↦ rw (eq-eqb x latin is) apart
  | inr other ↦ rw (ne_eqb x latin other) other
]

stand_in-apart : (x y : ℕ) → x ≢ y → stand_in x y ≢ stand_in y x
unfolding stand_in
stand_in-apart x y apart = stood_in-apart latin_american (is_special_spanish x) (is_special_spanish y) x y apart

-- ---- a line comes first to the same one, whichever is named first

either-flip : (x y locale : ℕ) → (locale == x || locale == y) ≡ (locale == y || locale == x)
either-flip x y locale = grind (arith, nat_tests)

first_met-flip : (line : List ℕ) (x y : ℕ) → first_met line x y ≡ first_met line y x
first_met-flip [] x y = refl
first_met-flip (locale ∷ line) x y =
    ap (λ (b : Bool). cond b (Some locale) (first_met line x y)) (either-flip x y locale)
    ∙ ap (cond (locale == y || locale == x) (Some locale)) (first_met-flip line x y)

-- ---- what decides where it comes to neither

abbrev nearer_by : ℕ → ℕ → Bool → Bool → ℕ → ℕ → Bool
nearer_by m n one other here there = if not (m == n) then nat_lt m n else if exactly_one one other then one else nat_lt here there

nearer_by-one : (m n : ℕ) (one other : Bool) (here there : ℕ) → nearer_by m n one other here there ≡ true → nearer_by n m other one there here ≡ false
nearer_by-one m n true true here there is = grind (arith, nat_tests)
nearer_by-one m n true false here there is = grind (arith, nat_tests)
nearer_by-one m n false true here there is = grind (arith, nat_tests)
nearer_by-one m n false false here there is = grind (arith, nat_tests)

is_nearer_aside-one : (x y script : ℕ) (line : List ℕ) → is_nearer_aside x y script line ≡ true → is_nearer_aside y x script line ≡ false
unfolding is_nearer_aside
is_nearer_aside-one x y script line =
    nearer_by-one (distance (line_of x script) line) (distance (line_of y script) line) (is_representative_of x script) (is_representative_of y script) (region_of x) (region_of y)

-- ---- of two locales, and of two regions

is_nearer_locale-one : (x y script : ℕ) (line : List ℕ) → x ≢ y → is_nearer_locale x y script line ≡ true → is_nearer_locale y x script line ≡ false
unfolding is_nearer_locale
is_nearer_locale-one x y script line apart is =
    ap (λ (o : Option ℕ). option_map_or (λ met. met == y) o (is_nearer_aside y x script line)) (sym (first_met-flip line x y))
    ∙ met (first_met line x y) is
  where
    met : (o : Option ℕ) → option_map_or (λ met. met == x) o (is_nearer_aside x y script line) ≡ true → option_map_or (λ met. met == y) o (is_nearer_aside y x script line) ≡ false
    met None is = is_nearer_aside-one x y script line is
    met (Some locale) is = let here = eqb-true locale x is in ne_eqb locale y (λ there. apart (sym here ∙ there))

pub is_nearer_of-one : (one other : ℕ) (d : DeviceLocale) → one ≢ other → is_nearer_of one other d ≡ true → is_nearer_of other one d ≡ false
unfolding is_nearer_of
is_nearer_of-one one other d apart is =
    let language = language_of (locale_of_device d) in
    let script = d.script in
    let x = language + one in
    let y = language + other in
    is_nearer_locale-one (stand_in x y) (stand_in y x) script (line_of (locale_of_device d) script) (stand_in-apart x y (λ same. apart (omega (arith, same)))) is
