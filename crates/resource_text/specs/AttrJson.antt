-- Which style sets an attribute at a device, which is the list of its numbers, and where the attribute ends, as lines of JSON.
use Rattle.std.specs.Prelude.{ℕ, Bool, List, ◌++◌, codes, Option, Some, None}
use Rattle.std.specs.List.{flat_map}
use Rattle.serde_json.specs.Data.{Data, object, Members, no_members, put as with_member}
use Rattle.res_value.specs.declared.res_id.ResId.{ResId}
use Rattle.reference_resolver.specs.Trace.{look_ups_of}
use Rattle.answer_text.specs.bag_rows.declared.bag_row.BagRow.{BagRow}
use Rattle.answer_text.specs.bags_themes.declared.slot.Slot.{Slot}
use Rattle.answer_text.specs.bags_themes.declared.slot.Slot.TheVariants.{Refers, Ends}
use Rattle.answer_text.specs.bags_themes.Attribute.{references_after_slot}
use Rattle.resource_text.specs.declared.attribute.Setting.{Setting}
use Rattle.resource_text.specs.declared.attribute.Setting.TheVariants.{NotSet, First, TookOver, KeptOut}
use Rattle.resource_text.specs.declared.attribute.StyleStep.{StyleStep}
use Rattle.resource_text.specs.AttrNotation.{setting_words, style_steps}
use Rattle.resource_text.specs.EndJson.{end_data_within, value_data_at, with_id, with_from_layer}
use Rattle.resource_text.specs.ExplainJson.{look_up_json, with_did}
use Rattle.resource_text.specs.GoalEndJson.{slot_end_data}
use Rattle.resource_text.specs.LineJson.{line_members, line_json}
use Rattle.resource_text.specs.Naming.{NamingOf}

-- ---- styles

unfoldable pub setting_did : Setting → List ℕ
setting_did NotSet = codes "not set"
setting_did First = codes "first"
setting_did TookOver = codes "took over"
setting_did KeptOut = codes "kept out"

unfoldable pub setting_data : Setting → Data
setting_data setting = object (with_did (setting_did setting) (setting_words setting) no_members)

-- the value by which a style would set the attribute, and its layer
unfoldable pub with_own : NamingOf → Option BagRow → Members → Members
with_own naming None others = others
with_own naming (Some own) others = with_from_layer naming own.layer (with_member (codes "value") (value_data_at naming own.layer own.value) others)

-- the line of a style
unfoldable pub style_json : NamingOf → StyleStep → List ℕ
style_json naming step =
    line_json (with_own naming step.own (with_member (codes "decision") (setting_data step.setting) (with_id naming step.style.0 (line_members (codes "style")))))

-- ---- the end

-- the line of an end
abbrev pub slot_line : Data → List ℕ
slot_line end = line_json (with_member (codes "end") end (line_members (codes "end")))

-- the look-ups of what a style refers to, and the end
unfoldable pub slot_json : NamingOf → List ℕ → Slot → List ℕ
slot_json naming d (Refers target) =
    flat_map (look_up_json naming d) (look_ups_of naming.stack references_after_slot target.0 d)
    ++ slot_line (end_data_within naming references_after_slot d target.0)
slot_json naming d (Ends end) = slot_line (slot_end_data naming end)

-- the line of the attribute, those of styles that are applied to nothing, and how what they set comes to its end
unfoldable pub attr_json : NamingOf → Bool → ℕ → List ℕ → List ResId → Slot → List ℕ
attr_json naming force attr d styles slot =
    line_json (with_id naming attr (line_members (codes "attribute"))) ++ flat_map (style_json naming) (style_steps naming.stack d force attr None styles)
    ++ slot_json naming d slot
