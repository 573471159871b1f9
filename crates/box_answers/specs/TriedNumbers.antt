-- The numbers of a set at which a rule is tried. They are few, and chosen so that a rule which says something anywhere in the
-- set says it at one of them.
use Rattle.std.specs.Prelude.{ℕ, ◌+◌, Bool, true, false, List, [], ◌∷◌, IsTrue, min, max}
use Rattle.std.specs.List.{list_all}
use Rattle.config_precedence.specs.config_record.declared.coord.Coord.{Coord}
use Rattle.config_precedence.specs.config_record.declared.coord.Coord.TheVariants as coords
use Rattle.config_precedence.specs.config_match.declared.kind.Kind.{Kind}
use Rattle.config_precedence.specs.config_match.declared.kind.Kind.TheVariants as kinds
use Rattle.config_precedence.specs.config_match.declared.rule.Rule.{Rule}
use Rattle.config_precedence.specs.config_match.Condition.{soft_keys}
use Rattle.box_answers.specs.NumberSet.{SetOf, RangeOf, NumbersOf, LocalesOf}

-- ---- the rules that can be tried so

-- A rule of locales is tried at all of a choice. No range has locales.
abbrev pub can_be_tried : Kind → SetOf → Bool
can_be_tried kinds.LocaleRank (RangeOf low high) = false
can_be_tried kinds.LocaleSuits (RangeOf low high) = false
can_be_tried kind set = true

-- a rule of locales stands at the locale, where boxes have a choice
abbrev pub stands_in_place : Kind → Coord → Bool
stands_in_place kinds.LocaleRank coords.Locale = true
stands_in_place kinds.LocaleRank c = false
stands_in_place kinds.LocaleSuits coords.Locale = true
stands_in_place kinds.LocaleSuits c = false
stands_in_place kind c = true

abbrev pub StandInPlace : List Rule → Type 0
StandInPlace rules = IsTrue (list_all (λ rule. stands_in_place rule.kind rule.coord) rules)

-- ---- the numbers

-- the number itself, or the end of the range that is nearer
abbrev pub clamped : ℕ → ℕ → ℕ → ℕ
clamped low high n = max low (min n high)

-- Of a range the ends, the two numbers after the first, and the numbers of which a rule may speak: those of the two
-- records, a and b, and soft keys. Of a choice all numbers. Most rules single out two numbers at most and say the same of
-- all others: of the first three one at least is such another. Where a rule turns once, an end shows it; and the sizes of a
-- screen are alike from 2, normal, up.
abbrev pub tried_numbers : SetOf → ℕ → ℕ → List ℕ
tried_numbers (RangeOf low high) a b =
    low ∷ high ∷ clamped low high (low + 1) ∷ clamped low high (low + 2)
    ∷ clamped low high a ∷ clamped low high b ∷ clamped low high soft_keys ∷ []
tried_numbers (NumbersOf numbers) a b = numbers
tried_numbers (LocalesOf numbers) a b = numbers
