-- Certificates as contracts see them: goals and nodes, by their content, not their address.
use Rattle.std.specs.Prelude.{ℕ, ◌+◌, ◌≤◌, Bool, true, false, List, [], ◌∷◌, map, length}
use Rattle.std.specs.List.{All}
use Rattle.config_box.specs.config_record.declared.coord.Coord as coord
use Rattle.config_box.specs.config_record.declared.coord.Coord.TheVariants as coords
use Rattle.config_box.specs.config_record.locales.declared.locale_rule.LocaleRule.{LocaleRule}
use Rattle.config_box.specs.config_record.locales.Text.{IsGivenBy}
use Rattle.config_box.specs.Tests.{ChoiceOf, NumbersOf, LocalesOf, TestOf, AtMostOf, AmongOf, test_of}
use Rattle.res_value.specs.declared.res_id.ResId.{ResId}
use Rattle.res_value.specs.declared.value.Value.{Value}
use Rattle.res_value.specs.Goal.{GoalSeen, IdGoal, AttrGoal, goal_seen, most_styles}
use Rattle.cert_tree.specs.declared.node.Node.{Node}
use Rattle.cert_tree.specs.declared.node.Node.TheVariants as node
use Rattle.cert_tree.specs.declared.cert.Cert.{Cert}
use Rattle.cert_tree.specs.declared.cert.CertGoal.{CertGoal}

-- a test, or where the goal ends: at a value in a layer, or at a bag
pub data NodeOf : Type 0 where
  TestAt : TestOf → NodeOf
  ValueAt : ℕ → Value → NodeOf
  BagAt : ResId → NodeOf

-- whether it is asked where an id ends
abbrev pub is_id : GoalSeen → Bool
is_id (IdGoal id) = true
is_id (AttrGoal attr styles) = false

-- a goal with its tree
pub record GoalOf : Type 0 where
  pub goal : GoalSeen
  pub nodes : List NodeOf

abbrev pub node_of : Node → NodeOf
node_of (node.Test test) = TestAt (test_of test)
node_of (node.Value layer value) = ValueAt layer value
node_of (node.Bag id) = BagAt id

abbrev pub goal_of : CertGoal → GoalOf
goal_of g = record { goal = goal_seen g.goal; nodes = map node_of g.nodes.items }

abbrev pub goals_of : Cert → List GoalOf
goals_of certificate = map goal_of certificate.goals.items

-- how many nodes all goals have
abbrev pub node_count : List GoalOf → ℕ
node_count [] = 0
node_count (g ∷ goals) = length g.nodes + node_count goals

-- ---- the limits of what JSON can say

-- how many nodes all goals of a certificate can have
abbrev pub most_nodes : ℕ
most_nodes = 1000000

-- the last layer
abbrev pub last_layer : ℕ
last_layer = 63

-- how many values a test can list
abbrev pub most_listed : ℕ
most_listed = 512

-- numbers for a number; for the locale locales, each of which some text gives by this rule
abbrev pub ChoiceFits : LocaleRule → coord.Coord → ChoiceOf → Type 0
ChoiceFits rule coords.Locale (LocalesOf locales) = (length locales ≤ most_listed) × All (IsGivenBy rule) locales
ChoiceFits rule coords.Locale (NumbersOf numbers) = ⊥
ChoiceFits rule c (NumbersOf numbers) = length numbers ≤ most_listed
ChoiceFits rule c (LocalesOf locales) = ⊥

abbrev pub NodeFits : LocaleRule → NodeOf → Type 0
NodeFits rule (TestAt (AtMostOf c most)) = Unit {0}
NodeFits rule (TestAt (AmongOf c choice)) = ChoiceFits rule c choice
NodeFits rule (ValueAt layer value) = layer ≤ last_layer
NodeFits rule (BagAt id) = Unit {0}

abbrev pub GoalFits : GoalSeen → Type 0
GoalFits (IdGoal id) = Unit {0}
GoalFits (AttrGoal attr styles) = length styles ≤ most_styles

-- a certificate within the limits, whose lists are of their coordinates' kinds, and whose locales are of this rule
pub record CertFits (rule : LocaleRule) (goals : List GoalOf) : Type 0 where
  pub few : node_count goals ≤ most_nodes
  pub styles : All (λ g. GoalFits g.goal) goals
  pub nodes : All (λ g. All (NodeFits rule) g.nodes) goals
