-- Which coordinates a rule reads.
use Rattle.std.specs.Prelude.{◌≡◌, ℕ, ◌+◌, ◌&&◌, nat_le, Bool, true, List, [], ◌∷◌, map, IsTrue}
use Rattle.std.specs.List.{flat_map}
use Rattle.config_record.specs.declared.coord.Coord.{Coord}
use Rattle.config_record.specs.Coord.{place_of}
use Rattle.config_match.specs.declared.kind.Kind.{Kind}
use Rattle.config_match.specs.declared.kind.Kind.TheVariants as kinds
use Rattle.config_match.specs.declared.rule.Rule.{Rule}
use Rattle.config_match.specs.Rule.{beside, rule_answer}

abbrev pub reads_of : Kind → Coord → List Coord
reads_of kinds.Dimensions c = c ∷ beside c ∷ []
reads_of kind c = c ∷ []

-- that of the rule and, of dimensions, the second
abbrev pub reads : Rule → List Coord
reads rule = reads_of rule.kind rule.coord

-- two configurations have the same number at each of these
abbrev pub AgreeAt : List Coord → (Coord → ℕ) → (Coord → ℕ) → Type 0
AgreeAt [] x y = Unit {0}
AgreeAt (c ∷ cs) x y = (x c ≡ y c) × AgreeAt cs x y

-- what the rule says depends on the numbers at these alone
abbrev pub DependsOnReads : Rule → Type 0
DependsOnReads rule =
    (a b d x y z : Coord → ℕ) → AgreeAt (reads rule) a x → AgreeAt (reads rule) b y → AgreeAt (reads rule) d z
    → rule_answer rule a b d ≡ rule_answer rule x y z

-- ---- of a table

-- the places of all coordinates that the rules read, one rule after the other
abbrev pub places_read : List Rule → List ℕ
places_read rules = map place_of (flat_map reads rules)

-- each place is after the one before it, and the first is not below n
abbrev pub rises_from : ℕ → List ℕ → Bool
rises_from n [] = true
rises_from n (place ∷ places) = nat_le n place && rises_from (place + 1) places

-- no coordinate is read twice, and they are read in their order
abbrev pub AreReadInOrder : List Rule → Type 0
AreReadInOrder rules = IsTrue (rises_from 0 (places_read rules))
