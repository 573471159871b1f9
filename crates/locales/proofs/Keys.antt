-- What is found by a key is what is found by its two parts.
use Rattle.std.proofs.Common.{◌≡◌, ℕ, ◌^◌, ◌<◌, ◌==◌, ◌&&◌, cond, List, [], ◌∷◌, find, Some, nat_lt, refl, sym, ap, ap₂, ◌∙◌, inl, inr, arith, ltb-true, eq-eqb, ne_eqb}
use Rattle.std.specs.List.{list_all}
use Rattle.std.proofs.lemmas.Bool.{cases_eq, and_parts, and_from, and_left, and_right}
use Rattle.locales.specs.Lines.{key_of, AllFit}

key_tells : (script locale a b : ℕ) → locale < 2 ^ 32 → b < 2 ^ 32 → (key_of a b == key_of script locale) ≡ (a == script && b == locale)
key_tells script locale a b fits b_fits = elim (cases_eq a script) [
  | inl same ↦ elim (cases_eq b locale) [
    | inl both ↦ eq-eqb _ _ (ap₂ key_of same both) ∙ sym (and_from _ _ (eq-eqb _ _ same) (eq-eqb _ _ both))
    | inr other ↦ ne_eqb _ _ (λ one_key. other (omega arith)) ∙ sym (and_right _ _ (ne_eqb _ _ other))
  ]
  | inr other ↦ ne_eqb _ _ (λ one_key. other (omega arith)) ∙ sym (and_left _ _ (ne_eqb _ _ other))
]

module _ {X : Type 0} (script_of locale_of : X → ℕ) (script locale : ℕ) (fits : locale < 2 ^ 32) where
  find-parts : (xs : List X) → AllFit locale_of xs → find (λ x. key_of (script_of x) (locale_of x) == key_of script locale) xs ≡ find (λ x. script_of x == script && locale_of x == locale) xs
  find-parts [] all = refl
  find-parts (x ∷ xs) all =
      let parts = and_parts (nat_lt (locale_of x) (2 ^ 32)) (list_all (λ y. nat_lt (locale_of y) (2 ^ 32)) xs) all in
      ap₂ (λ b rest. cond b (Some x) rest) (key_tells script locale (script_of x) (locale_of x) fits (ltb-true _ _ parts.0)) (find-parts xs parts.1)

  pub find-key : (k : ℕ) (xs : List X) → k ≡ key_of script locale → AllFit locale_of xs → find (λ x. key_of (script_of x) (locale_of x) == k) xs ≡ find (λ x. script_of x == script && locale_of x == locale) xs
  find-key k xs is all = ap (λ n. find (λ x. key_of (script_of x) (locale_of x) == n) xs) is ∙ find-parts xs all
