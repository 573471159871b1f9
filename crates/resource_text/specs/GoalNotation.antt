-- A goal by its name, and where it ends at a device, which is the list of its numbers, in Android's notation.
use Rattle.std.specs.Prelude.{ℕ, List, ◌++◌, codes}
use Rattle.std.specs.List.{flat_map}
use Rattle.res_value.specs.Goal.{GoalSeen, IdGoal, AttrGoal}
use Rattle.res_value.specs.declared.res_id.ResId.{ResId}
use Rattle.reference_resolver.specs.declared.end.End.{End}
use Rattle.reference_resolver.specs.declared.end.End.TheVariants as of_end
use Rattle.answer_text.specs.bags_themes.AttributeTrace.{attribute_trace}
use Rattle.resource_text.specs.Naming.{NamingOf, id_notation}
use Rattle.resource_text.specs.AttrNotation.{slot_end}
use Rattle.resource_text.specs.EndNotation.{end_at}

-- ` STYLE`
unfoldable pub next_style : NamingOf → ResId → List ℕ
next_style naming style = codes " " ++ id_notation naming style.0

-- `NAME`, or `ATTR under STYLE STYLE`
unfoldable pub goal_notation : NamingOf → GoalSeen → List ℕ
goal_notation naming (IdGoal id) = id_notation naming id.0
goal_notation naming (AttrGoal attr styles) = id_notation naming attr.0 ++ codes " under" ++ flat_map (next_style naming) styles

-- where it ends at a device
unfoldable pub goal_end : NamingOf → List ℕ → GoalSeen → List ℕ
goal_end naming d (IdGoal id) = end_at naming d id.0
goal_end naming d (AttrGoal attr styles) = slot_end naming (attribute_trace naming.stack attr.0 styles d).end

-- where a certificate says that it does; of a bag, which
unfoldable pub claimed_end : NamingOf → End → List ℕ
claimed_end naming (of_end.Bag id) = codes "bag " ++ id_notation naming id.0
claimed_end naming end = slot_end naming end
