-- How units are passed over, up to the first that is zero.
use Rattle.std.proofs.Common.{◌≡◌, ℕ, ◌+◌, ◌<◌, ◌≤◌, true, false, List, [], ◌∷◌, ◌++◌, length, take, drop, slice_index, refl, sym, ap, ◌∙◌, append_assoc, arith}
use Rattle.std.specs.Prelude.{◌==◌, ◌&&◌, not}
use Rattle.std.proofs.lemmas.Bool.{not-true, not-false}
use Rattle.std.proofs.lemmas.List.{drop-drop}
use Rattle.std.proofs.Math.Seq.{take-add}
use Rattle.overlay_map.specs.Package.{before_zero}
use Rattle.overlay_map.specs.Units.{has_unit}

pub has_unit-short : (units : List ℕ) → length units < 2 → has_unit units ≡ false
unfolding has_unit
has_unit-short [] short = refl
has_unit-short (a ∷ []) short = refl
has_unit-short (a ∷ b ∷ units) short = absurd (omega (arith, short))

pub has_unit-long : (units : List ℕ) → 2 ≤ length units → has_unit units ≡ not (slice_index units 0 == 0 && slice_index units 1 == 0)
unfolding has_unit
has_unit-long [] long = absurd (omega (arith, long))
has_unit-long (a ∷ []) long = absurd (omega (arith, long))
has_unit-long (a ∷ b ∷ units) long = refl

pub ruleset unit_steps = (has_unit-short, has_unit-long)

-- where a unit stands there are two bytes, and the unit stands in front of what comes before zero behind it
pub has_unit-size : (units : List ℕ) → has_unit units ≡ true → 2 ≤ length units
unfolding has_unit
has_unit-size [] has = absurd cc
has_unit-size (a ∷ []) has = absurd cc
has_unit-size (a ∷ b ∷ units) has = omega arith

before_zero-step : (units : List ℕ) → has_unit units ≡ true → before_zero units ≡ take 2 units ++ before_zero (drop 2 units)
unfolding before_zero has_unit
before_zero-step [] has = absurd cc
before_zero-step (a ∷ []) has = absurd cc
before_zero-step (low ∷ high ∷ units) has =
    let some : (low == 0 && high == 0) ≡ false = not-true _ has in rw some refl

pub before_zero-none : (units : List ℕ) → has_unit units ≡ false → before_zero units ≡ []
unfolding before_zero has_unit
before_zero-none [] none = refl
before_zero-none (a ∷ []) none = refl
before_zero-none (low ∷ high ∷ units) none =
    let both : (low == 0 && high == 0) ≡ true = not-false _ none in rw both refl

pub passed-drop : (units left : List ℕ) (size : ℕ) → left ≡ drop size units → drop 2 left ≡ drop (size + 2) units
passed-drop units left size behind = ap (λ (t : List ℕ). drop 2 t) behind ∙ drop-drop 2 size units

-- one more unit is passed over
pub passed-next : (units left : List ℕ) (size : ℕ) → left ≡ drop size units → has_unit left ≡ true
    → take size units ++ before_zero left ≡ before_zero units → take (size + 2) units ++ before_zero (drop 2 left) ≡ before_zero units
passed-next units left size behind has before =
    ap (λ (t : List ℕ). t ++ before_zero (drop 2 left)) (take-add size 2 units ∙ ap (λ (t : List ℕ). take size units ++ take 2 t) (sym behind))
    ∙ append_assoc (take size units) (take 2 left) (before_zero (drop 2 left))
    ∙ ap (λ (t : List ℕ). take size units ++ t) (sym (before_zero-step left has))
    ∙ before
