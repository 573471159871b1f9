use Rattle.std.proofs.Common.{ℕ, List, ◌++◌, ap, sym, ◌∙◌}
use Rattle.string_pool.specs.Shown.{units_text}
use Rattle.string_pool.specs.Units.{units_in}
use Rattle.string_pool.proofs.UnitTexts.{units_text-last, units_text-pair, units_text-apart}
use Rattle.string_pool.proofs.units.first_character.Goals as goal

pub returns-in-Some-surrogate_pair-clause-text : goal.returns-in-Some-surrogate_pair-clause-text
returns-in-Some-surrogate_pair-clause-text c =
    units_text-pair _ _ _ _ _ c.in-Some-surrogate_pair.character c.in_ok-unit.ensures.first c.in-Some.ensures.first c.in-Some-surrogate_pair.ensures

pub returns-in-None-clause-text : goal.returns-in-None-clause-text
returns-in-None-clause-text c =
    units_text-apart _ _ _ _ _ c.in_ok-unit.ensures.first c.in-Some.ensures.first c.in-None.ensures
    ∙ ap (λ (t : List ℕ). t ++ units_text (units_in c.in_ok-unit.behind.now)) (sym c.single_unit-in-None.ensures)

pub returns-in_default-clause-text : goal.returns-in_default-clause-text
returns-in_default-clause-text c =
    units_text-last _ _ c.in_ok-unit.unit c.in_ok-unit.ensures.first c.in_default.ensures.first
    ∙ ap (λ (t : List ℕ). t ++ units_text (units_in c.in_ok-unit.behind.now)) (sym c.single_unit.ensures)
