-- No JSON of a verdict, of the rows of a bag, of styles, and of the row of a table has a float.
use Rattle.std.proofs.Common.{◌≡◌, ℕ, ◌==◌, Bool, false, List, [], ◌∷◌, ◌++◌, codes, length, map, Option, Some, None, refl}
use Rattle.std.proofs.lemmas.Bool.{or_from}
use Rattle.std.specs.Fmt.{decimal}
use Rattle.serde_json.specs.Data.{object, Members, no_members, put}
use Rattle.serde_json.specs.View.{items_of}
use Rattle.serde_json.specs.Written.{has_float, items_have_float}
use Rattle.config_box.specs.config_record.Device.{device_coordinate, device_locale}
use Rattle.command_base.specs.answer_text.config_record.DeviceSeen.{device_numbers}
use Rattle.reference_resolver.specs.declared.end.End.{End}
use Rattle.reference_resolver.specs.declared.end.End.TheVariants as of_end
use Rattle.res_value.specs.Cell.{CellOf, PlainOf, BagOf}
use Rattle.res_value.specs.Goal.{GoalSeen, IdGoal, AttrGoal}
use Rattle.res_value.specs.declared.res_id.ResId.{ResId}
use Rattle.answer_text.specs.bags_themes.AttributeTrace.{attribute_trace}
use Rattle.cert_maker.specs.cert_checker.declared.rule.Rule.{Rule}
use Rattle.cert_maker.specs.cert_checker.declared.verdict.Shown.{Shown}
use Rattle.cert_maker.specs.cert_checker.declared.verdict.Shown.TheVariants.{Nothing, Two, One}
use Rattle.cert_maker.specs.cert_checker.Rule.{number_of, name_of as name_of_rule}
use Rattle.names.specs.NamedIds.{packages_of}
use Rattle.answer_text.specs.bag_rows.declared.bag_row.BagRow.{BagRow}
use Rattle.answer_text.specs.declared.row_key.Keys.{Keys}
use Rattle.answer_text.specs.RowKeys.{row_key}
use Rattle.answer_text.specs.ValueContent.{value_content}
use Rattle.resource_text.specs.declared.attribute.Setting.{Setting}
use Rattle.resource_text.specs.AttrJson.{setting_data, setting_did, with_own}
use Rattle.resource_text.specs.AttrNotation.{setting_words}
use Rattle.resource_text.specs.BagJson.{with_row_at}
use Rattle.resource_text.specs.ConfigJson.{with_numbers}
use Rattle.resource_text.specs.DeviceJson.{device_data}
use Rattle.resource_text.specs.EndJson.{resource_data, value_data_at, with_id}
use Rattle.resource_text.specs.GoalEndJson.{with_layer_of, slot_end_data, with_goal_end}
use Rattle.resource_text.specs.LineJson.{line_members}
use Rattle.resource_text.specs.Naming.{NamingOf}
use Rattle.resource_text.specs.RowJson.{with_cell, with_parent}
use Rattle.resource_text.specs.TextJson.{text_data, number_data, list_data}
use Rattle.resource_text.specs.VerdictJson.{goal_data, shown_device_data, shown_data, with_fault, claim_shown, with_claimed, with_goal}
use Rattle.resource_text.proofs.NoFloat.{NoFloat, either, items-no_float, put-no_float, text-no_float, with_row-no_float}
use Rattle.resource_text.proofs.NoFloatLines.{numbers-no_float, locale-no_float, id-no_float, resource-no_float, from_layer-no_float, said-no_float, end_at-no_float, value_at-no_float, did-no_float}

-- ---- devices

pub device-no_float : (d : List ℕ) → has_float (device_data d) ≡ false
unfolding device_data
device-no_float d = locale-no_float (device_locale d) (with_numbers (device_coordinate d) no_members) (numbers-no_float (device_coordinate d) no_members refl)

-- ---- ends

with_layer_of-no_float : (naming : NamingOf) (end : End) (ms : Members) → NoFloat ms → NoFloat (with_layer_of naming end ms)
unfolding with_layer_of
with_layer_of-no_float naming (of_end.Value layer value) ms none = from_layer-no_float naming layer ms none
with_layer_of-no_float naming (of_end.Bag id) ms none = none
with_layer_of-no_float naming (of_end.Absent id) ms none = none
with_layer_of-no_float naming (of_end.TooLong id) ms none = none

pub slot_end-no_float : (naming : NamingOf) (end : End) → has_float (slot_end_data naming end) ≡ false
unfolding slot_end_data
slot_end-no_float naming end = said-no_float naming end (with_layer_of naming end no_members) (with_layer_of-no_float naming end no_members refl)

with_goal_end-no_float : (naming : NamingOf) (d : List ℕ) (goal : GoalSeen) (ms : Members) → NoFloat ms → NoFloat (with_goal_end naming d goal ms)
unfolding with_goal_end
with_goal_end-no_float naming d (IdGoal id) ms none = end_at-no_float naming d id.0 ms none
with_goal_end-no_float naming d (AttrGoal attr styles) ms none =
    let end = (attribute_trace naming.stack attr.0 styles d).end in put-no_float (codes "end") (slot_end_data naming end) ms (slot_end-no_float naming end) none

-- ---- the devices that show a rejection

shown_device-no_float : (naming : NamingOf) (goal : GoalSeen) (d : List ℕ) → has_float (shown_device_data naming goal d) ≡ false
unfolding shown_device_data
shown_device-no_float naming goal d =
    with_goal_end-no_float naming d goal (put (codes "device") (device_data d) no_members) (put-no_float (codes "device") (device_data d) no_members (device-no_float d) refl)

shown-no_float : (naming : NamingOf) (goal : GoalSeen) (shown : Shown) → items_have_float (items_of (shown_data naming goal shown)) ≡ false
unfolding shown_data
shown-no_float naming goal Nothing = refl
shown-no_float naming goal (Two first second) =
    let last = or_from (has_float (shown_device_data naming goal (device_numbers second))) false (shown_device-no_float naming goal (device_numbers second)) refl in
    or_from (has_float (shown_device_data naming goal (device_numbers first))) _ (shown_device-no_float naming goal (device_numbers first)) last
shown-no_float naming goal (One device end) =
    or_from (has_float (shown_device_data naming goal (device_numbers device))) false (shown_device-no_float naming goal (device_numbers device)) refl

-- ---- rejections

with_fault-no_float : (goal node : ℕ) (rule : Rule) (ms : Members) → NoFloat ms → NoFloat (with_fault goal node rule ms)
unfolding with_fault
with_fault-no_float goal node rule ms none =
    let word = text_data (codes "N" ++ decimal (number_of rule)) in
    let at_goal = put (codes "place") (number_data goal) ms in
    let at_node = put (codes "node") (number_data node) at_goal in
    let to_node = put-no_float (codes "node") (number_data node) at_goal refl (put-no_float (codes "place") (number_data goal) ms refl none) in
    let to_rule = put-no_float (codes "rule") word at_node (text-no_float (codes "N" ++ decimal (number_of rule))) to_node in
    put-no_float (codes "ruleName") (text_data (name_of_rule rule)) (put (codes "rule") word at_node) (text-no_float (name_of_rule rule)) to_rule

with_claimed-no_float : (naming : NamingOf) (claimed : Option End) (ms : Members) → NoFloat ms → NoFloat (with_claimed naming claimed ms)
unfolding with_claimed
with_claimed-no_float naming None ms none = none
with_claimed-no_float naming (Some end) ms none = put-no_float (codes "claimed") (slot_end_data naming end) ms (slot_end-no_float naming end) none

goal-no_float : (naming : NamingOf) (goal : GoalSeen) → has_float (goal_data naming goal) ≡ false
unfolding goal_data
goal-no_float naming (IdGoal id) = resource-no_float naming id.0
goal-no_float naming (AttrGoal attr styles) =
    let resource = λ (style : ResId). resource_data naming style.0 in
    put-no_float (codes "styles") (list_data (map resource styles)) (with_id naming attr.0 no_members)
    (items-no_float resource (λ style. resource-no_float naming style.0) styles) (id-no_float naming attr.0 no_members refl)

with_goal-no_float : (naming : NamingOf) (goal : Option GoalSeen) (claimed : Option End) (shown : Shown) (ms : Members)
    → NoFloat ms → NoFloat (with_goal naming goal claimed shown ms)
unfolding with_goal
with_goal-no_float naming None claimed shown ms none = none
with_goal-no_float naming (Some goal) claimed shown ms none =
    let claim = claim_shown shown claimed in
    let named = put (codes "goal") (goal_data naming goal) ms in
    put-no_float (codes "devices") (list_data (shown_data naming goal shown)) (with_claimed naming claim named) (shown-no_float naming goal shown)
    (with_claimed-no_float naming claim named (put-no_float (codes "goal") (goal_data naming goal) ms (goal-no_float naming goal) none))

pub rejected-no_float : (naming : NamingOf) (asked : Option GoalSeen) (claimed : Option End) (goal node : ℕ) (rule : Rule) (shown : Shown)
    → NoFloat (with_goal naming asked claimed shown (with_fault goal node rule (line_members (codes "rejected"))))
rejected-no_float naming asked claimed goal node rule shown =
    let kind = line_members (codes "rejected") in
    with_goal-no_float naming asked claimed shown (with_fault goal node rule kind) (with_fault-no_float goal node rule kind refl)

-- ---- rows of bags

pub row_at-no_float : (naming : NamingOf) (keys : Keys) (place : ℕ) (row : BagRow) (ms : Members) → NoFloat ms → NoFloat (with_row_at naming keys place row ms)
unfolding with_row_at
row_at-no_float naming keys place row ms none =
    with_row-no_float (packages_of naming.stack) (Some row.value) (row_key naming.stack keys place row.name.0) (value_content naming.stack row.layer row.value) ms none

-- ---- styles

pub setting-no_float : (setting : Setting) → has_float (setting_data setting) ≡ false
unfolding setting_data
setting-no_float setting = did-no_float (setting_did setting) (setting_words setting) no_members refl

pub own-no_float : (naming : NamingOf) (own : Option BagRow) (ms : Members) → NoFloat ms → NoFloat (with_own naming own ms)
unfolding with_own
own-no_float naming None ms none = none
own-no_float naming (Some own) ms none =
    let value = value_data_at naming own.layer own.value in
    from_layer-no_float naming own.layer (put (codes "value") value ms) (put-no_float (codes "value") value ms (value_at-no_float naming own.layer own.value) none)

-- ---- rows of tables

parent-no_float : (naming : NamingOf) (parent : ℕ) (ms : Members) → NoFloat ms → NoFloat (with_parent naming parent ms)
unfolding with_parent
parent-no_float naming parent ms none =
    either (parent == 0) ms _ none (put-no_float (codes "parent") (resource_data naming parent) ms (resource-no_float naming parent) none)

pub cell-no_float : (naming : NamingOf) (cell : CellOf) (ms : Members) → NoFloat ms → NoFloat (with_cell naming cell ms)
unfolding with_cell
cell-no_float naming (PlainOf value) ms none = put-no_float (codes "value") (value_data_at naming 0 value) ms (value_at-no_float naming 0 value) none
cell-no_float naming (BagOf parent rows) ms none =
    let count = put (codes "rows") (number_data (length rows)) no_members in
    put-no_float (codes "bag") (object (with_parent naming parent.0 count)) ms
    (parent-no_float naming parent.0 count (put-no_float (codes "rows") (number_data (length rows)) no_members refl refl)) none
