-- No locale has more than three above it.
use Rattle.std.proofs.Common.{◌≡◌, ℕ, zero, suc, ◌+◌, ◌≤◌, ◌==◌, ◌&&◌, ◌⊎◌, Bool, true, false, List, [], ◌∷◌, length, find, nat_le, Option, Some, None, option_map, unwrap_or, refl, sym, ap, subst, ◌∙◌, inl, inr, arith, leb-true, eqb-true, eq-eqb}
use Rattle.std.specs.List.{list_all}
use Rattle.std.specs.Option.{option_map_or}
use Rattle.std.proofs.lemmas.Bool.{cond-true, cond-false, cases_Bool, and_parts}
use Rattle.locales.specs.TextNumber.{number_of}
use Rattle.locales.specs.declared.lines.ParentLine.{ParentLine}
use Rattle.locales.specs.Lines.{parent_in}
use Rattle.locales.specs.Parents.{parents}
use Rattle.locales.specs.Facts.{region_of, language_of, parent_of}
use Rattle.locales.specs.Line.{first_above}

cases_Option : {X : Type 0} (o : Option X) → (o ≡ None) ⊎ ((x : X) × (o ≡ Some x))
cases_Option None = inl refl
cases_Option (Some x) = inr (x, refl)

pub first_above-none : (most locale script : ℕ) → parent_of locale script ≡ None → first_above most locale script ≡ []
unfolding first_above
first_above-none zero locale script none = refl
first_above-none (suc most) locale script none = ap (λ o. option_map_or (λ parent. parent ∷ first_above most parent script) o []) none

pub first_above-some : (most locale script parent : ℕ) → parent_of locale script ≡ Some parent → first_above (suc most) locale script ≡ parent ∷ first_above most parent script
unfolding first_above
first_above-some most locale script parent some = ap (λ o. option_map_or (λ above. above ∷ first_above most above script) o []) some

first_above-zero : (locale script : ℕ) → first_above 0 locale script ≡ []
unfolding first_above
first_above-zero locale script = refl

-- where so many are all, there are no more
first_above-all : (most more locale script : ℕ) → length (first_above (suc most) locale script) ≤ most → first_above (most + more) locale script ≡ first_above most locale script
first_above-all zero more locale script few = elim (cases_Option (parent_of locale script)) [
  | inl none ↦ first_above-none (0 + more) locale script none ∙ sym (first_above-zero locale script)
  | inr some ↦
      let long = ap length (first_above-some 0 locale script some.0 some.1) in absurd (omega (arith, long))
]
first_above-all (suc most) more locale script few = elim (cases_Option (parent_of locale script)) [
  | inl none ↦ first_above-none (suc most + more) locale script none ∙ sym (first_above-none (suc most) locale script none)
  | inr some ↦
      let parent = some.0 in
      let long = ap length (first_above-some (suc most) locale script parent some.1) in
      let next : suc most + more ≡ suc (most + more) = omega arith in
      ap (λ n. first_above n locale script) next
      ∙ first_above-some (most + more) locale script parent some.1
      ∙ ap (◌∷◌ parent) (first_above-all most more parent script (omega (arith, long)))
      ∙ sym (first_above-some most locale script parent some.1)
]

-- ---- the listed parents

find-passes : {X : Type 0} (test p : X → Bool) (xs : List X) (x : X) → list_all test xs ≡ true → find p xs ≡ Some x → (test x ≡ true) × (p x ≡ true)
find-passes test p [] x all found = cc
find-passes test p (y ∷ ys) x all found =
    let parts = and_parts (test y) (list_all test ys) all in
    elim (cases_Bool (p y)) [
      | inl is ↦
          let same : Some y ≡ Some x = sym (cond-true _ _ _ is) ∙ found in
          let y_is : y ≡ x = cc in subst (λ z. (test z ≡ true) × (p z ≡ true)) y_is (parts.0, is)
      | inr other ↦ find-passes test p ys x parts.1 (sym (cond-false _ _ _ other) ∙ found)
    ]

-- above a listed parent there are at most two
abbrev has_two_at_most : ParentLine → Bool
has_two_at_most line = nat_le (length (first_above 3 line.parent line.script)) 2

all_have_two : list_all has_two_at_most parents ≡ true
unfolding number_of first_above parent_of parents
all_have_two = refl

parent_of-alone : (locale script : ℕ) → region_of locale ≡ 0 → parent_of locale script ≡ None
unfolding parent_of
parent_of-alone locale script alone = cond-true _ _ _ (eq-eqb _ _ alone)

parent_of-region : (locale script : ℕ) → (region_of locale == 0) ≡ false → parent_of locale script ≡ Some (unwrap_or (parent_in parents locale script) (language_of locale))
unfolding parent_of
parent_of-region locale script region = cond-false _ _ _ region

pub few_above : (locale script : ℕ) → length (first_above 4 locale script) ≤ 3
few_above locale script = elim (cases_Bool (region_of locale == 0)) [
  | inl alone ↦
      let none = ap length (first_above-none 4 locale script (parent_of-alone locale script (eqb-true _ _ alone))) in omega (arith, none)
  | inr region ↦
      let asked = λ (line : ParentLine). line.script == script && line.locale == locale in
      elim (cases_Option (find asked parents)) [
        | inl unlisted ↦
            let language = language_of locale in
            let parent = parent_of-region locale script region ∙ ap (λ o. Some (unwrap_or (option_map (λ line. line.parent) o) language)) unlisted in
            let alone : region_of language ≡ 0 = omega arith in
            let long = ap length (first_above-some 3 locale script language parent) in
            let none = ap length (first_above-none 3 language script (parent_of-alone language script alone)) in
            omega (arith, long, none)
        | inr listed ↦
            let line = listed.0 in
            let parent = parent_of-region locale script region ∙ ap (λ o. Some (unwrap_or (option_map (λ found. found.parent) o) (language_of locale))) listed.1 in
            let facts = find-passes has_two_at_most asked parents line all_have_two listed.1 in
            let of_script = eqb-true line.script script (and_parts (line.script == script) (line.locale == locale) facts.1).0 in
            let few : length (first_above 3 line.parent script) ≤ 2 = subst (λ s. length (first_above 3 line.parent s) ≤ 2) of_script (leb-true _ _ facts.0) in
            let long = ap length (first_above-some 3 locale script line.parent parent) in
            omega (arith, long, few)
      ]
]

pub none_left : (locale script more : ℕ) → first_above (3 + more) locale script ≡ first_above 3 locale script
none_left locale script more = first_above-all 3 more locale script (few_above locale script)
