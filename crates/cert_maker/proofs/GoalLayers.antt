-- The layer of a value at which a goal ends is one of the stack.
use Rattle.std.proofs.Common.{ℕ, ◌≤◌, List, length}
use Rattle.cert_checker.specs.overlay_map.Layer.{LayerOf}
use Rattle.cert_checker.specs.reference_resolver.Ends.{references_followed}
use Rattle.cert_checker.specs.res_value.Goal.{GoalSeen, IdGoal, AttrGoal}
use Rattle.cert_checker.specs.FirstFault.{goal_trace}
use Rattle.cert_checker.proofs.bags_themes.EndLayers.{EndBelow, end-below}
use Rattle.cert_checker.proofs.bags_themes.AttributeLayers.{attribute-below}

pub goal-below : (count : ℕ) (stack : List LayerOf) (goal : GoalSeen) (d : List ℕ) → length stack ≤ count → EndBelow count (goal_trace stack goal d).end
goal-below count stack (IdGoal id) d few = end-below count stack references_followed id.0 d few
goal-below count stack (AttrGoal attr styles) d few = attribute-below count stack attr.0 styles d few
