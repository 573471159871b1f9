-- Where ids end at a device, which is the list of its numbers, as JSON values. An object is told member by member; they stand in it
-- in the order of their names' bytes.
use Rattle.std.specs.Prelude.{ℕ, Bool, true, false, List, ◌++◌, codes, slice_get, Option, Some, None}
use Rattle.std.specs.List.{flat_map}
use Rattle.serde_json.specs.Data.{Data, object, string, Members, no_members, put as with_member}
use Rattle.notation.specs.declared.form.Form.TheVariants.{Android}
use Rattle.res_value.specs.ResId.{id_text}
use Rattle.res_value.specs.declared.res_id.ResId.{ResId}
use Rattle.res_value.specs.declared.value.Value.{Value}
use Rattle.names.specs.NamedIds.{packages_of}
use Rattle.answer_text.specs.overlay_map.Candidates.{CandOf}
use Rattle.answer_text.specs.InForm.{value_in}
use Rattle.answer_text.specs.ValueContent.{value_content}
use Rattle.reference_resolver.specs.declared.end.End.{End}
use Rattle.reference_resolver.specs.declared.end.End.TheVariants as of_end
use Rattle.reference_resolver.specs.Ends.{references_followed, is_value, end_of}
use Rattle.command_base.specs.SetAside.{rows_set_aside}
use Rattle.config_box.specs.config_record.Device.{device_locale}
use Rattle.config_box.specs.config_record.locales.LocaleRule.{rule_of}
use Rattle.resource_text.specs.ConfigJson.{config_data}
use Rattle.resource_text.specs.ContentJson.{value_data}
use Rattle.resource_text.specs.EndNotation.{last_selected}
use Rattle.resource_text.specs.LineJson.{line_members, line_json, set_aside_json}
use Rattle.resource_text.specs.Naming.{NamingOf, id_notation}
use Rattle.resource_text.specs.TextJson.{text_data, number_data}

-- ---- ids

-- what an id is called
abbrev pub name_data : NamingOf → ℕ → Data
name_data naming id = text_data (id_notation naming id)

-- an id, and what it is called
unfoldable pub with_id : NamingOf → ℕ → Members → Members
with_id naming id others = with_member (codes "name") (name_data naming id) (with_member (codes "id") (text_data (id_text id)) others)

-- a resource by both
unfoldable pub resource_data : NamingOf → ℕ → Data
resource_data naming id = object (with_id naming id no_members)

-- ---- values

-- what a value says that a row of the layer at a place holds
unfoldable pub value_data_at : NamingOf → ℕ → Value → Data
value_data_at naming layer value =
    let content = value_content naming.stack layer value in
    value_data (packages_of naming.stack) (Some value) content (value_in Android (packages_of naming.stack) content)

-- ---- where a row stands

abbrev pub with_path : Option (List ℕ) → Members → Members
with_path (Some path) others = with_member (codes "path") (string path) others
with_path None others = others

-- the layer at a place, and the path of its table, where it has one of these
unfoldable pub with_layer_at : List (List ℕ) → ℕ → Members → Members
with_layer_at paths place others = with_path (slice_get paths place) (with_member (codes "layer") (number_data place) others)

abbrev pub with_layer : NamingOf → ℕ → Members → Members
with_layer naming place others = with_layer_at naming.paths place others

-- a layer, where no row is told
unfoldable pub with_from_layer : NamingOf → ℕ → Members → Members
with_from_layer naming place others = with_member (codes "from") (object (with_layer naming place no_members)) others

-- a layer, and the configuration of a row of it
unfoldable pub place_data : NamingOf → ℕ → List ℕ → Data
place_data naming layer config = object (with_layer naming layer (with_member (codes "config") (config_data config) no_members))

-- ---- the end

-- a value, or a bag by the id that selected it, or why there is neither, and of which id
unfoldable pub with_end : NamingOf → End → Members → Members
with_end naming (of_end.Value layer value) others = with_member (codes "value") (value_data_at naming layer value) others
with_end naming (of_end.Bag id) others = with_member (codes "bag") (resource_data naming id.0) others
with_end naming (of_end.Absent id) others = with_member (codes "absent") (resource_data naming id.0) others
with_end naming (of_end.TooLong id) others = with_member (codes "tooManyReferences") (resource_data naming id.0) others

-- the row that was selected last, where a value or a bag is of it
unfoldable pub with_origin : NamingOf → Option CandOf → Bool → Members → Members
with_origin naming None is_of_it others = others
with_origin naming (Some candidate) true others = with_member (codes "from") (place_data naming candidate.layer candidate.row.config) others
with_origin naming (Some candidate) false others = others

abbrev pub end_data : NamingOf → Option CandOf → End → Data
end_data naming last end = object (with_origin naming last (is_value end) (with_end naming end no_members))

-- where an id ends, where at most so many references are followed
unfoldable pub end_data_within : NamingOf → ℕ → List ℕ → ℕ → Data
end_data_within naming most d id = end_data naming (last_selected naming.stack most id d) (end_of naming.stack most id d)

unfoldable pub with_end_at : NamingOf → List ℕ → ℕ → Members → Members
with_end_at naming d id others = with_member (codes "end") (end_data_within naming references_followed d id) others

-- ---- the ends of ids

-- the line of an id
unfoldable pub end_json : NamingOf → List ℕ → ResId → List ℕ
end_json naming d id = line_json (with_end_at naming d id.0 (with_id naming id.0 (line_members (codes "end"))))

-- a line for each id, in their order, and one with the number of rows of all layers that are set aside
unfoldable pub ends_json : NamingOf → List ℕ → List ResId → List ℕ
ends_json naming d ids = flat_map (end_json naming d) ids ++ set_aside_json (rows_set_aside (rule_of (device_locale d)) naming.stack)
