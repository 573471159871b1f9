-- Of two records that suit a device at most one is better, and none is better than itself.
use Rattle.std.proofs.Common.{◌≡◌, ℕ, ◌==◌, ◌&&◌, ◌||◌, ◌⊎◌, not, Bool, true, false, if◌then◌else◌, refl, sym, subst, ◌∙◌, inl, inr, arith, eq-eqb}
use Rattle.std.proofs.lemmas.Bool.{cases_Bool, cases_eq, ne_eqb}
use Rattle.std.proofs.lemmas.Bool.Decides.{nat_tests}
use Rattle.locales.specs.Facts.{language_of, region_of}
use Rattle.locales.specs.declared.compared.RecordLocale.{RecordLocale}
use Rattle.locales.specs.declared.compared.DeviceLocale.{DeviceLocale}
use Rattle.locales.specs.Words.{exactly_one, locale_of_device, locale_of_record, says_nothing, are_alike}
use Rattle.locales.specs.Suits.{suits_of}
use Rattle.locales.specs.Nearer.{is_nearer_of}
use Rattle.locales.specs.Better.{is_us_english, is_good_region, is_better_language, is_better_in_region, is_better_of}
use Rattle.locales.proofs.AlikeLemmas.{are_alike-self, are_alike-flip, are_alike-third}
use Rattle.locales.proofs.NearerLemmas.{is_nearer_of-one}

-- ---- the languages of records that suit

-- a record that suits has no language, or one that is alike to the device's
suits_of-language : (r : RecordLocale) (d : DeviceLocale) → suits_of r d ≡ true
    → (language_of (locale_of_record r) ≡ 0) ⊎ (are_alike (language_of (locale_of_record r)) (language_of (locale_of_device d)) ≡ true)
unfolding suits_of
suits_of-language r d suits = elim (cases_eq (locale_of_record r) 0) [
  | inl nothing ↦ inl (omega arith)
  | inr something ↦ elim (cases_Bool (are_alike (language_of (locale_of_record r)) (language_of (locale_of_device d)))) [
    | inl alike ↦ inr alike
    | inr other ↦ absurd (let none = rw (ne_eqb (locale_of_record r) 0 something, other) at suits in cc)
  ]
]

neither : (x y : ℕ) → x ≡ 0 → y ≡ 0 → are_alike x y ≡ false → ⊥
neither x y none also apart = let same : x ≡ y = none ∙ sym also in let alike = are_alike-self y in let other = rw same at apart in cc

-- so of two that are not alike one has no language
one_language : (x y wanted : ℕ) → (x ≡ 0) ⊎ (are_alike x wanted ≡ true) → (y ≡ 0) ⊎ (are_alike y wanted ≡ true) → are_alike x y ≡ false → (x == 0) ≡ not (y == 0)
one_language x y wanted (inl none) second apart = elim (cases_eq y 0) [
  | inl also ↦ absurd (neither x y none also apart)
  | inr given ↦ rw (eq-eqb x 0 none, ne_eqb y 0 given) refl
]
one_language x y wanted (inr alike) (inl none) apart = elim (cases_eq x 0) [
  | inl also ↦ absurd (neither x y also none apart)
  | inr given ↦ rw (eq-eqb y 0 none, ne_eqb x 0 given) refl
]
one_language x y wanted (inr alike) (inr also) apart = absurd (let third = are_alike-third x y wanted alike also in cc)

-- ---- each step, of two that are exchanged

-- whether the device's English is that of the US, whether the first has no language, and whether the regions are good
abbrev language_by : Bool → Bool → Bool → Bool → Bool
language_by english none here there = if not english then not none else if not none then here else not there

language_by-one : (english none here there : Bool) → language_by english none here there ≡ true → language_by english (not none) there here ≡ false
language_by-one false true here there is = absurd cc
language_by-one false false here there is = refl
language_by-one true true here true is = absurd cc
language_by-one true true here false is = refl
language_by-one true false true there is = refl
language_by-one true false false there is = absurd cc

is_better_language-one : (a b d : ℕ) → (language_of b == 0) ≡ not (language_of a == 0) → is_better_language a b d ≡ true → is_better_language b a d ≡ false
unfolding is_better_language
is_better_language-one a b d other is =
    let here = is_good_region d (region_of a) in
    let there = is_good_region d (region_of b) in
    subst (λ (none : Bool). language_by (is_us_english d) none there here ≡ false) (sym other) (language_by-one (is_us_english d) (language_of a == 0) here there is)

abbrev variant_by : Bool → Bool → Bool → Bool → Bool
variant_by one other here there = if exactly_one one other then other else here && not there

variant_by-one : (one other here there : Bool) → variant_by one other here there ≡ true → variant_by other one there here ≡ false
variant_by-one true true true true is = absurd cc
variant_by-one true true true false is = refl
variant_by-one true true false there is = absurd cc
variant_by-one false false true true is = absurd cc
variant_by-one false false true false is = refl
variant_by-one false false false there is = absurd cc
variant_by-one true false here there is = absurd cc
variant_by-one false true here there is = refl

is_better_in_region-one : (a b : RecordLocale) (d : DeviceLocale) → is_better_in_region a b d ≡ true → is_better_in_region b a d ≡ false
unfolding is_better_in_region
is_better_in_region-one a b d =
    let wanted = language_of (locale_of_device d) in
    variant_by-one a.has_variant b.has_variant (language_of (locale_of_record a) == wanted) (language_of (locale_of_record b) == wanted)

-- ---- all steps

abbrev better_by : Bool → Bool → Bool → Bool → Bool → Bool → Bool
better_by silent alike by_language same by_region in_region =
    if silent then false else if not alike then by_language else if not same then by_region else in_region

better_by-one : (silent also alike same x y n m u v : Bool) → (alike ≡ false → x ≡ true → y ≡ false) → (same ≡ false → n ≡ true → m ≡ false) → (u ≡ true → v ≡ false)
    → better_by silent alike x same n u ≡ true → better_by also alike y same m v ≡ false
better_by-one silent true alike same x y n m u v language region in_region is = refl
better_by-one true false alike same x y n m u v language region in_region is = absurd cc
better_by-one false false false same x y n m u v language region in_region is = language refl is
better_by-one false false true false x y n m u v language region in_region is = region refl is
better_by-one false false true true x y n m u v language region in_region is = in_region is

eqb-flip : (x y : ℕ) → (x == y) ≡ (y == x)
eqb-flip x y = grind (arith, nat_tests)

at_most_one : (a b : RecordLocale) (d : DeviceLocale) → is_better_of a b d ≡ true → suits_of a d ≡ true → suits_of b d ≡ true → is_better_of b a d ≡ false
unfolding is_better_of
at_most_one a b d is suits also =
    let one = locale_of_record a in
    let other = locale_of_record b in
    let wanted = locale_of_device d in
    let x = language_of one in
    let y = language_of other in
    let r = region_of one in
    let s = region_of other in
    let alone = one_language y x (language_of wanted) (suits_of-language b d also) (suits_of-language a d suits) in
    rw (are_alike-flip y x, eqb-flip s r)
    (better_by-one
    (wanted == 0 || (says_nothing a && says_nothing b)) (wanted == 0 || (says_nothing b && says_nothing a)) (are_alike x y) (r == s)
    (is_better_language one other wanted) (is_better_language other one wanted)
    (is_nearer_of r s d) (is_nearer_of s r d)
    (is_better_in_region a b d) (is_better_in_region b a d)
    (λ apart. is_better_language-one one other wanted (alone (are_alike-flip y x ∙ apart)))
    (λ apart. is_nearer_of-one r s d (λ same. let is_same = eq-eqb r s same in cc))
    (is_better_in_region-one a b d)
    is)

pub one_sided : (a b : RecordLocale) (d : DeviceLocale) (result : Bool) → result ≡ is_better_of a b d → result ≡ true → suits_of a d ≡ true → suits_of b d ≡ true → is_better_of b a d ≡ false
one_sided a b d result value is = at_most_one a b d (sym value ∙ is)

-- ---- a record and itself

variant_by-self : (variant own : Bool) → variant_by variant variant own own ≡ false
variant_by-self true true = refl
variant_by-self true false = refl
variant_by-self false true = refl
variant_by-self false false = refl

is_better_in_region-self : (a : RecordLocale) (d : DeviceLocale) → is_better_in_region a a d ≡ false
unfolding is_better_in_region
is_better_in_region-self a d = variant_by-self a.has_variant (language_of (locale_of_record a) == language_of (locale_of_device d))

better_by-self : (silent x n v : Bool) → v ≡ false → better_by silent true x true n v ≡ false
better_by-self true x n v none = refl
better_by-self false x n v none = none

pub not_itself : (a : RecordLocale) (d : DeviceLocale) → is_better_of a a d ≡ false
unfolding is_better_of
not_itself a d =
    let one = locale_of_record a in
    rw (are_alike-self (language_of one), eq-eqb (region_of one) (region_of one) refl)
    (better_by-self (locale_of_device d == 0 || (says_nothing a && says_nothing a)) (is_better_language one one (locale_of_device d)) (is_nearer_of (region_of one) (region_of one) d) (is_better_in_region a a d) (is_better_in_region-self a d))
