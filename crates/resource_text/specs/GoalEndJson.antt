-- Where a goal ends at a device, which is the list of its numbers, as a JSON value; and where a certificate says that it does.
use Rattle.std.specs.Prelude.{ℕ, List, codes}
use Rattle.serde_json.specs.Data.{Data, object, Members, no_members, put as with_member}
use Rattle.res_value.specs.Goal.{GoalSeen, IdGoal, AttrGoal}
use Rattle.reference_resolver.specs.declared.end.End.{End}
use Rattle.reference_resolver.specs.declared.end.End.TheVariants as of_end
use Rattle.answer_text.specs.bags_themes.AttributeTrace.{attribute_trace}
use Rattle.resource_text.specs.EndJson.{with_end, with_end_at, with_from_layer}
use Rattle.resource_text.specs.Naming.{NamingOf}

-- a value of a style has no row of its own, so its layer alone is told
unfoldable pub with_layer_of : NamingOf → End → Members → Members
with_layer_of naming (of_end.Value layer value) others = with_from_layer naming layer others
with_layer_of naming end others = others

-- where an attribute ends, or a leaf says that a goal does
unfoldable pub slot_end_data : NamingOf → End → Data
slot_end_data naming end = object (with_end naming end (with_layer_of naming end no_members))

-- where a goal ends
unfoldable pub with_goal_end : NamingOf → List ℕ → GoalSeen → Members → Members
with_goal_end naming d (IdGoal id) others = with_end_at naming d id.0 others
with_goal_end naming d (AttrGoal attr styles) others =
    with_member (codes "end") (slot_end_data naming (attribute_trace naming.stack attr.0 styles d).end) others
