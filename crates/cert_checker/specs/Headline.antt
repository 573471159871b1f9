-- What a verdict says of all devices.
use Rattle.std.specs.Prelude.{◌≡◌, ℕ, List, Some, slice_get}
use Rattle.box_trace.specs.bags_themes.Theme.{unset}
use Rattle.box_trace.specs.bags_themes.AttributeEnd.{IsTheEndUnder}
use Rattle.box_trace.specs.reference_resolver.declared.end.End.{End}
use Rattle.box_trace.specs.reference_resolver.Ends.{IsTheEnd, references_followed}
use Rattle.box_trace.specs.overlay_map.Layer.{LayerOf}
use Rattle.cert_tree.specs.box_answers.NumberSet.{SetOf}
use Rattle.cert_tree.specs.box_answers.Members.{IsMember}
use Rattle.cert_tree.specs.res_value.declared.res_id.ResId.{ResId}
use Rattle.cert_tree.specs.Certificate.{NodeOf, GoalOf}
use Rattle.cert_tree.specs.res_value.Goal.{GoalSeen, IdGoal, AttrGoal}
use Rattle.cert_checker.specs.declared.verdict.Verdict.{Verdict}
use Rattle.cert_checker.specs.declared.verdict.Verdict.TheVariants.{Accepted, Rejected}
use Rattle.cert_checker.specs.Paths.{Reaches}
use Rattle.cert_checker.specs.FirstFault.{goal_trace, IsAccepted, IsFirstFault}

-- For a goal and a device the rules end here: those of selection, overlays and references, within twenty references; for an
-- attribute those of bags and themes too, where nothing is set before its styles, within twenty attribute steps.
abbrev pub RulesEndAt : List LayerOf → GoalSeen → List ℕ → End → Type 0
RulesEndAt stack (IdGoal id) d end = IsTheEnd stack id.0 d references_followed end
RulesEndAt stack (AttrGoal attr styles) d end = IsTheEndUnder stack attr.0 unset styles d end

-- The device reaches a leaf, and the rules end at what each leaf says that it reaches; so there is one such end.
pub record EndsAtItsLeaf (stack : List LayerOf) (goal : GoalSeen) (nodes : List NodeOf) (d : List ℕ) : Type 0 where
  pub claimed : End
  pub reaches : Reaches nodes d claimed
  pub ends : (end : End) → Reaches nodes d end → RulesEndAt stack goal d end

-- If the checker accepts a certificate for a stack of tables and overlays, a box and named goals, then for every
-- configuration in the box and every goal, the selection, overlay, bag, theme and reference rules end within twenty
-- attribute steps and twenty references at the value of the leaf that the configuration reaches; if it rejects, the node it
-- names is the first whose stated rule fails.
-- (The value, or the bag. The first is meant goal by goal and node by node, another list of goals before all; and of the
-- rules that fail at one node the one of the lowest number. A box is never empty: `ConfigBox::read` promises `IsBox`.)
abbrev pub Headline : List LayerOf → List SetOf → List GoalSeen → List GoalOf → Verdict → Type 0
Headline stack sets asked trees Accepted =
    (g : ℕ) (goal : GoalSeen) → slice_get asked g ≡ Some goal
    → (tree : GoalOf) × (slice_get trees g ≡ Some tree) × (tree.goal ≡ goal)
    × ((d : List ℕ) → IsMember sets d → EndsAtItsLeaf stack goal tree.nodes d)
Headline stack sets asked trees (Rejected g k rule shown) = IsFirstFault stack sets asked trees g k rule

-- A certificate of which no rule fails says where its goals end, whoever wrote it and whether it was checked or not.
abbrev pub AcceptedHolds : Type 0
AcceptedHolds =
    (stack : List LayerOf) (sets : List SetOf) (asked : List GoalSeen) (trees : List GoalOf) → IsAccepted stack sets asked trees
    → Headline stack sets asked trees Accepted

-- Of an id its words are fewer: for every configuration in the box the selection, overlay and reference rules end within
-- twenty references at the value of the leaf that the configuration reaches. (In a certificate of ids alone these are all
-- goals.)
abbrev pub IdsEndByReferences : Type 0
IdsEndByReferences =
    (stack : List LayerOf) (sets : List SetOf) (asked : List GoalSeen) (trees : List GoalOf) → Headline stack sets asked trees Accepted
    → (g : ℕ) (id : ResId) → slice_get asked g ≡ Some (IdGoal id)
    → (tree : GoalOf) × (slice_get trees g ≡ Some tree) × (tree.goal ≡ IdGoal id)
    × ((d : List ℕ) → IsMember sets d → (claimed : End) × Reaches tree.nodes d claimed × ((end : End) → Reaches tree.nodes d end → IsTheEnd stack id.0 d references_followed end))

-- The trace of a goal ends where the rules do.
abbrev pub TracesEndByRules : Type 0
TracesEndByRules = (stack : List LayerOf) (goal : GoalSeen) (d : List ℕ) → RulesEndAt stack goal d (goal_trace stack goal d).end
