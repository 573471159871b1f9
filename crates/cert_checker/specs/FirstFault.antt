-- Is a certificate accepted, and which fault comes first where it is not? It has a tree for each goal; `asked` are the goals
-- that it has to be for.
use Rattle.std.specs.Prelude.{◌≡◌, ◌≢◌, ℕ, ◌<◌, List, map, Some, slice_get}
use Rattle.box_trace.specs.bags_themes.AttributeTrace.{attribute_trace}
use Rattle.box_trace.specs.reference_resolver.Ends.{references_followed}
use Rattle.box_trace.specs.reference_resolver.Trace.{Trace, trace_of}
use Rattle.box_trace.specs.overlay_map.Layer.{LayerOf}
use Rattle.cert_tree.specs.box_answers.NumberSet.{SetOf}
use Rattle.cert_tree.specs.Certificate.{GoalOf}
use Rattle.cert_tree.specs.res_value.Goal.{GoalSeen, IdGoal, AttrGoal}
use Rattle.cert_checker.specs.declared.rule.Rule.{Rule}
use Rattle.cert_checker.specs.declared.rule.Rule.TheVariants.{GoalList}
use Rattle.cert_checker.specs.Fails.{NoRuleFails, FailsFirst}

-- what the rules of the platform do for a goal at a device: for an id, of which at most twenty references are followed, or
-- for an attribute under styles
abbrev pub goal_trace : List LayerOf → GoalSeen → List ℕ → Trace
goal_trace stack (IdGoal id) d = trace_of stack references_followed id.0 d
goal_trace stack (AttrGoal attr styles) d = attribute_trace stack attr.0 styles d

abbrev pub goals_in : List GoalOf → List GoalSeen
goals_in trees = map (λ tree. tree.goal) trees

-- the first place at which two lists differ: their items there do, or one of the lists ends before it and the other does not
pub record DifferFirstAt (found asked : List GoalSeen) (place : ℕ) : Type 0 where
  pub before : (k : ℕ) → k < place → slice_get found k ≡ slice_get asked k
  pub differ : slice_get found place ≢ slice_get asked place

abbrev pub NoRuleFailsIn : List LayerOf → List SetOf → GoalOf → Type 0
NoRuleFailsIn stack sets tree = NoRuleFails (goal_trace stack tree.goal) sets tree.nodes

-- it is for these goals, in their order, and no rule fails
pub record IsAccepted (stack : List LayerOf) (sets : List SetOf) (asked : List GoalSeen) (trees : List GoalOf) : Type 0 where
  pub goals : goals_in trees ≡ asked
  pub passes : (g : ℕ) (tree : GoalOf) → slice_get trees g ≡ Some tree → NoRuleFailsIn stack sets tree

-- it is for these goals, and this is the first of which a rule fails, with its first node and rule
pub record FailsFirstIn (stack : List LayerOf) (sets : List SetOf) (asked : List GoalSeen) (trees : List GoalOf) (g k : ℕ) (rule : Rule) : Type 0 where
  pub goals : goals_in trees ≡ asked
  pub before : (h : ℕ) (tree : GoalOf) → h < g → slice_get trees h ≡ Some tree → NoRuleFailsIn stack sets tree
  pub tree : GoalOf
  pub stands : slice_get trees g ≡ Some tree
  pub fails : FailsFirst (goal_trace stack tree.goal) sets tree.nodes k rule

-- the list of goals comes before all nodes
abbrev pub IsFirstFault : List LayerOf → List SetOf → List GoalSeen → List GoalOf → ℕ → ℕ → Rule → Type 0
IsFirstFault stack sets asked trees g k GoalList = DifferFirstAt (goals_in trees) asked g × (k ≡ 0)
IsFirstFault stack sets asked trees g k rule = FailsFirstIn stack sets asked trees g k rule
