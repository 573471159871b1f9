-- How a tree grows: node by node, with the boxes of its open paths. (Cited by contracts of this crate alone.)
use Rattle.std.specs.Prelude.{◌≡◌, ℕ, ◌+◌, ◌<◌, ◌≤◌, false, List, [], ◌∷◌, ◌++◌, map, reverse, length, Option, Some, None}
use Rattle.std.specs.List.{All}
use Rattle.cert_checker.specs.config_record.declared.device.Device.{Device}
use Rattle.cert_checker.specs.config_record.DeviceSeen.{device_numbers}
use Rattle.cert_checker.specs.reference_resolver.declared.end.End.{End}
use Rattle.cert_checker.specs.overlay_map.Layer.{LayerOf}
use Rattle.cert_checker.specs.reference_resolver.Trace.{Trace}
use Rattle.cert_checker.specs.box_trace.declared.open_box.OpenBox.{OpenBox}
use Rattle.cert_checker.specs.box_trace.OpenBox.{boxes_of, IsReached}
use Rattle.cert_checker.specs.box_answers.NumberSet.{SetOf}
use Rattle.cert_checker.specs.box_answers.Members.{IsMember}
use Rattle.cert_checker.specs.config_box.Tests.{TestOf}
use Rattle.cert_checker.specs.cert_tree.declared.node.Node.{Node}
use Rattle.cert_checker.specs.cert_tree.Certificate.{NodeOf, node_of}
use Rattle.cert_checker.specs.res_value.Goal.{GoalSeen}
use Rattle.cert_checker.specs.declared.rule.Rule.{Rule}
use Rattle.cert_checker.specs.Paths.{Path, IsAt, after}
use Rattle.cert_checker.specs.reference_resolver.Ends.{is_value}
use Rattle.cert_checker.specs.Fails.{FailsAtTest, FailsAtNode, NoRuleFails}
use Rattle.cert_checker.specs.FirstFault.{goal_trace}
use Rattle.cert_checker.specs.OpenBoxes.{IsBoxAt, Stand}
use Rattle.cert_maker.specs.Needed.{IsNeededAt, IsNeeded}
use Rattle.cert_maker.specs.FitsBox.{FitsBox}
use Rattle.cert_maker.specs.declared.tree.Grown.{Grown}
use Rattle.cert_maker.specs.declared.tree.Grown.TheVariants.{Tree, Counterexample, TooLarge}

-- no rule fails at the node, if it is a test it is needed, and it is within what JSON can say
pub record IsGood (trace : List ℕ → Trace) (sets : List SetOf) (node : NodeOf) (path : Path) : Type 0 where
  pub passes : (rule : Rule) → FailsAtNode trace sets (IsAt sets path) node rule → ⊥
  pub needed : IsNeededAt trace sets node path
  pub fits : FitsBox sets node

-- one good node more, and these boxes stand for the open paths after it
pub record AddsNode (trace : List ℕ → Trace) (sets : List SetOf) (path : Path) (paths : List Path) (old new : List NodeOf) (boxes : List (List SetOf)) : Type 0 where
  pub node : NodeOf
  pub added : new ≡ old ++ node ∷ []
  pub good : IsGood trace sets node path
  pub stand : Stand sets boxes (after node path paths)

-- whatever the whole box is, and the open paths: the last of the boxes is that of the first path
abbrev pub Grows : (List ℕ → Trace) → List SetOf → List NodeOf → List NodeOf → List (List SetOf) → List (List SetOf) → Type 0
Grows trace part old new before after_it =
    (sets : List SetOf) (path : Path) (paths : List Path) → IsBoxAt sets path part → Stand sets (reverse before) paths
    → AddsNode trace sets path paths old new (reverse after_it)

-- Whatever the goal is: the tree grows, and each open box has its walk.
abbrev pub GrowsOn : List LayerOf → OpenBox → List NodeOf → List NodeOf → List OpenBox → List OpenBox → Type 0
GrowsOn stack part old new before after_it =
    (goal : GoalSeen) → IsReached stack (goal_trace stack goal) part → All (IsReached stack (goal_trace stack goal)) before
    → Grows (goal_trace stack goal) part.members old new (boxes_of before) (boxes_of after_it)
    × All (IsReached stack (goal_trace stack goal)) after_it

-- a member for which the goal ends at no value
pub record IsCounterexampleOf (trace : List ℕ → Trace) (sets : List SetOf) (d : List ℕ) (end : End) : Type 0 where
  pub member : IsMember sets d
  pub ends : (trace d).end ≡ end
  pub no_value : is_value end ≡ false

-- one node more, and the tree grows; or a member for which the goal ends at no value, with that end
abbrev pub AddsOrEnds : List LayerOf → OpenBox → List Node → List Node → List OpenBox → List OpenBox → Option (Device × End) → Type 0
AddsOrEnds stack part old new before after_it None =
    GrowsOn stack part (map node_of old) (map node_of new) before after_it × (length new ≡ length old + 1)
AddsOrEnds stack part old new before after_it (Some found) =
    (trace : List ℕ → Trace) → IsReached stack trace part → IsCounterexampleOf trace part.members (device_numbers found.0) found.1

-- no rule fails in the tree, its tests are needed, it is within the limit, and its nodes within what JSON can say; or a
-- member ends at no value; or there is a tree of needed tests above the limit
abbrev pub IsGrown : (List ℕ → Trace) → List SetOf → ℕ → Grown → Type 0
IsGrown trace sets most (Tree nodes) = NoRuleFails trace sets (map node_of nodes.items) × IsNeeded trace sets (map node_of nodes.items) × (length nodes.items ≤ most) × All (FitsBox sets) (map node_of nodes.items)
IsGrown trace sets most (Counterexample device end) = IsCounterexampleOf trace sets (device_numbers device) end
IsGrown trace sets most TooLarge = (nodes : List NodeOf) × IsNeeded trace sets nodes × (most < length nodes)

-- no rule fails at a test to which the members of a box come
abbrev pub CanBeAsked : List SetOf → TestOf → Type 0
CanBeAsked sets test = (rule : Rule) → FailsAtTest sets (IsMember sets) test rule → ⊥
