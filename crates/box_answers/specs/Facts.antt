-- Four facts about the rules, by which few numbers of a set are enough to know what all of them say.
use Rattle.std.specs.Prelude.{◌≡◌, ℕ, ◌<◌, ◌≤◌, ◌==◌, true, List, Contains}
use Rattle.config_precedence.specs.config_record.declared.coord.Coord as coord
use Rattle.config_precedence.specs.config_record.declared.coord.Coord.TheVariants as coords
use Rattle.config_precedence.specs.config_record.ComparedNumber.{record_number}
use Rattle.config_precedence.specs.config_match.declared.answer.Answer.TheVariants.{Yes, Pass}
use Rattle.config_precedence.specs.config_match.declared.kind.Kind.TheVariants as kinds
use Rattle.config_precedence.specs.config_match.declared.rule.Rule.{Rule}
use Rattle.config_precedence.specs.config_match.Comparisons.{counted_density, normal_size}
use Rattle.config_precedence.specs.config_match.Rule.{at, beside, rule_answer}
use Rattle.config_precedence.specs.config_match.Conditions.{all_conditions}
use Rattle.box_answers.specs.NumberSet.{SetOf}
use Rattle.box_answers.specs.Changes.{IsNowhere}

abbrev pub density_rule : Rule
density_rule = at coords.Density kinds.Density

-- Where the first record's density counts at least as large, and it is better at a device, it is better at each device of
-- a greater density; where it counts as smaller, at each of a smaller one.
pub record DensityTurnsOnce (a b : coord.Coord → ℕ) : Type 0 where
  pub up : (d e : coord.Coord → ℕ) → counted_density (b coords.Density) ≤ counted_density (a coords.Density) → d coords.Density ≤ e coords.Density
      → rule_answer density_rule a b d ≡ Yes → rule_answer density_rule a b e ≡ Yes
  pub down : (d e : coord.Coord → ℕ) → counted_density (a coords.Density) < counted_density (b coords.Density) → e coords.Density ≤ d coords.Density
      → rule_answer density_rule a b d ≡ Yes → rule_answer density_rule a b e ≡ Yes

abbrev pub size_rule : Rule
size_rule = at coords.ScreenSize kinds.ScreenSize

-- the rule of the screen's size says the same of all sizes from normal up
abbrev pub SizesFromNormalUpAreAlike : (coord.Coord → ℕ) → (coord.Coord → ℕ) → Type 0
SizesFromNormalUpAreAlike a b =
    (d e : coord.Coord → ℕ) → normal_size ≤ d coords.ScreenSize → normal_size ≤ e coords.ScreenSize → rule_answer size_rule a b d ≡ rule_answer size_rule a b e

-- a rule of two dimensions asks only which of the device's are 0
abbrev pub DimensionsAskWhichAreZero : (coord.Coord → ℕ) → (coord.Coord → ℕ) → Type 0
DimensionsAskWhichAreZero a b =
    (c : coord.Coord) (d e : coord.Coord → ℕ) → (d c == 0) ≡ (e c == 0) → (d (beside c) == 0) ≡ (e (beside c) == 0)
    → rule_answer (at c kinds.Dimensions) a b d ≡ rule_answer (at c kinds.Dimensions) a b e

-- one of these rules passes at no member
abbrev pub OneFails : List SetOf → List Rule → (coord.Coord → ℕ) → (coord.Coord → ℕ) → Type 0
OneFails sets rules a b = (rule : Rule) × Contains rules rule × IsNowhere sets rule a b Pass

-- of a record that matches no member of a box one condition fails on the whole box
abbrev pub FailsOnOneSide : List SetOf → List ℕ → Type 0
FailsOnOneSide sets r = OneFails sets all_conditions (record_number r) (record_number r)
