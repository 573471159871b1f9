-- A list with a number for each coordinate, of which one is changed.
use Rattle.std.proofs.Common.{◌≡◌, ℕ, ◌≤◌, ◌≢◌, inl, inr, List, length, get_or, set, refl, sym, ap, subst, ◌∙◌, arith}
use Rattle.std.proofs.lemmas.Bool.{cases_eq}
use Rattle.std.proofs.lemmas.List.{get_or-set_same, get_or-set_other}
use Rattle.config_record.specs.declared.coord.Coord.{Coord}
use Rattle.config_record.specs.declared.coord.Coord.TheVariants as coords
use Rattle.config_record.specs.Coord.{all_coords, place_of, number_at, greatest_of_device}
use Rattle.locales.specs.LocaleNumber.{locale_of_number}
use Rattle.config_record.specs.Device.{device_locale, CanHave}
use Rattle.locales.specs.Text.{IsGiven}
use Rattle.config_record.proofs.DeviceLemmas.{coordinate-at_place, place_of-within, inside-within, inside-some}

-- two coordinates at one place are one
pub place_of-injective : (c k : Coord) → place_of c ≡ place_of k → c ≡ k
place_of-injective c k e = sym (coordinate-at_place c) ∙ ap (λ i. get_or all_coords i coords.Mcc) e ∙ coordinate-at_place k

-- two coordinates are one, or they are not
pub by_coord : {P : Type 0} (c k : Coord) → (c ≡ k → P) → (c ≢ k → P) → P
by_coord c k same other = elim (cases_eq (place_of c) (place_of k)) [
  | inl e ↦ same (place_of-injective c k e)
  | inr n ↦ other (λ e. n (ap place_of e))
]

pub number_at-set_same : (numbers : List ℕ) (c : Coord) (n : ℕ) → length numbers ≡ 25 → number_at (set numbers (place_of c) n) c ≡ n
unfolding all_coords
number_at-set_same numbers c n count = get_or-set_same numbers (place_of c) n 0 (omega (arith, place_of-within c))

pub number_at-set_other : (numbers : List ℕ) (c k : Coord) (n : ℕ) → k ≢ c → number_at (set numbers (place_of c) n) k ≡ number_at numbers k
number_at-set_other numbers c k n other = get_or-set_other numbers (place_of c) (place_of k) n 0 (λ e. other (place_of-injective k c e))

-- what a device can have is what its type asks for
pub can_have-within : (c : Coord) (n : ℕ) → CanHave c n → c ≢ coords.Locale → n ≤ greatest_of_device c
can_have-within coords.Locale n h other = absurd (other refl)
can_have-within c n h other = inside-within c n h

pub changed-in_range : (numbers : List ℕ) (at : Coord) (n : ℕ) → length numbers ≡ 25 → CanHave at n
    → ((c : Coord) → c ≢ coords.Locale → number_at numbers c ≤ greatest_of_device c)
    → (c : Coord) → c ≢ coords.Locale → number_at (set numbers (place_of at) n) c ≤ greatest_of_device c
changed-in_range numbers at n count can before c other =
    by_coord c at
    (λ e. let new : number_at (set numbers (place_of at) n) c ≡ n = ap (number_at (set numbers (place_of at) n)) e ∙ number_at-set_same numbers at n count in
    let within : n ≤ greatest_of_device c = subst (λ (k : Coord). n ≤ greatest_of_device k) (sym e) (can_have-within at n can (λ is. other (e ∙ is))) in
    omega arith)
    (λ ne. let old : number_at (set numbers (place_of at) n) c ≡ number_at numbers c = number_at-set_other numbers at c n ne in
    let within = before c other in
    omega arith)

pub changed-with_density : (numbers : List ℕ) (at : Coord) (n : ℕ) → length numbers ≡ 25 → CanHave at n → 1 ≤ number_at numbers coords.Density
    → 1 ≤ number_at (set numbers (place_of at) n) coords.Density
changed-with_density numbers at n count can before =
    by_coord coords.Density at
    (λ e. let new : number_at (set numbers (place_of at) n) coords.Density ≡ n = ap (number_at (set numbers (place_of at) n)) e ∙ number_at-set_same numbers at n count in
    let within : CanHave coords.Density n = subst (λ (k : Coord). CanHave k n) (sym e) can in
    omega (arith, inside-some n within))
    (λ ne. let old : number_at (set numbers (place_of at) n) coords.Density ≡ number_at numbers coords.Density = number_at-set_other numbers at coords.Density n ne in
    omega arith)

pub changed-with_locale : (numbers : List ℕ) (at : Coord) (n : ℕ) → length numbers ≡ 25 → CanHave at n → IsGiven (device_locale numbers)
    → IsGiven (device_locale (set numbers (place_of at) n))
changed-with_locale numbers at n count can before =
    by_coord coords.Locale at
    (λ e. let new : number_at (set numbers (place_of at) n) coords.Locale ≡ n = ap (number_at (set numbers (place_of at) n)) e ∙ number_at-set_same numbers at n count in
    let given : CanHave coords.Locale n = subst (λ (k : Coord). CanHave k n) (sym e) can in
    subst (λ (m : ℕ). IsGiven (locale_of_number m)) (sym new) given)
    (λ ne. let old : number_at (set numbers (place_of at) n) coords.Locale ≡ number_at numbers coords.Locale = number_at-set_other numbers at coords.Locale n ne in
    subst (λ (m : ℕ). IsGiven (locale_of_number m)) (sym old) before)
