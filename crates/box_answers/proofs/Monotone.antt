-- The density rule turns once.
use Rattle.std.proofs.Common.{◌≡◌, ℕ, ◌-◌, ◌*◌, ◌≤◌, true, false, arith, refl, Bool, ◌⊎◌, inl, inr, sym, ◌∙◌}
use Rattle.std.proofs.lemmas.Bool.{false_from_ne_true}
use Rattle.std.proofs.lemmas.Bool.Decides.{nat_tests}
use Rattle.std.proofs.Math.Nat.{mul-le-mul_right, mul-le-mul}
use Rattle.config_precedence.specs.config_match.Comparisons.{is_larger_better}

pub by_bool : (P : Bool → Type 0) (b : Bool) → (b ≡ true → P true) → (b ≡ false → P false) → P b
by_bool P true t f = t refl
by_bool P false t f = f refl

-- a device of a greater density still prefers the larger
pub is_larger_better-mono : (l h r s : ℕ) → r ≤ s → is_larger_better l h r ≡ true → is_larger_better l h s ≡ true
unfolding is_larger_better
is_larger_better-mono l h r s le was =
    let falls : (2 * l - s) * h ≤ (2 * l - r) * h = mul-le-mul_right h (omega arith) in
    let rises : r * r ≤ s * s = mul-le-mul le le in
    grind (arith, nat_tests, falls, rises)

-- between two densities of the device, each preference is that of one of the two ends
pub is_larger_better-ends : (l h low high r : ℕ) → low ≤ r → r ≤ high → (is_larger_better l h r ≡ is_larger_better l h low) ⊎ (is_larger_better l h r ≡ is_larger_better l h high)
is_larger_better-ends l h low high r p q =
    by_bool (λ b. (b ≡ is_larger_better l h low) ⊎ (b ≡ is_larger_better l h high)) (is_larger_better l h r)
    (λ e. inr (sym (is_larger_better-mono l h r high q e)))
    (λ e. inl (sym (false_from_ne_true (is_larger_better l h low) (λ f. let g = is_larger_better-mono l h low r p f in let x : true ≡ false = sym g ∙ e in cc))))
