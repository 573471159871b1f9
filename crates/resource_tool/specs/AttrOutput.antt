-- What the command `attr` prints, and what its words ask.
use Rattle.std.specs.Prelude.{ℕ, Bool, false, List, [], ◌∷◌, ◌++◌, codes, Option, None, Result, Ok, Err}
use Rattle.contract_words.specs.Faults.{◌>>=◌}
use Rattle.command_base.specs.json_input.Each.{each}
use Rattle.command_base.specs.answer_text.config_record.locales.declared.locale_rule.LocaleRule.{LocaleRule}
use Rattle.command_base.specs.answer_text.res_value.declared.res_id.ResId.{ResId}
use Rattle.command_base.specs.answer_text.res_value.ResId.{id_text}
use Rattle.command_base.specs.overlay_map.Layer.{LayerOf}
use Rattle.command_base.specs.answer_text.reference_resolver.declared.end.End.{End}
use Rattle.command_base.specs.answer_text.bags_themes.declared.bag_fault.BagFault.{BagFault}
use Rattle.command_base.specs.answer_text.bags_themes.Theme.{AttributeValues, unset}
use Rattle.command_base.specs.answer_text.bags_themes.Styles.{values_after_styles}
use Rattle.command_base.specs.answer_text.bags_themes.Attribute.{attribute_of, attributes_followed, slot_of}
use Rattle.command_base.specs.answer_text.EndText.{end_with_name}
use Rattle.resource_text.specs.notation.declared.form.Form.TheVariants.{Raw, Android}
use Rattle.resource_text.specs.declared.line_form.LineForm.{LineForm}
use Rattle.resource_text.specs.declared.line_form.LineForm.TheVariants.{Text, Json}
use Rattle.resource_text.specs.AttrJson.{attr_json}
use Rattle.resource_text.specs.AttrNotation.{attr_notation}
use Rattle.resource_text.specs.Naming.{NamingOf}
use Rattle.command_base.specs.answer_text.NameText.{name_beside}
use Rattle.command_base.specs.declared.fault.ToolFault.{ToolFault}
use Rattle.command_base.specs.declared.status.Status.{Status}
use Rattle.command_base.specs.declared.stop.Stop.{Stop}
use Rattle.command_base.specs.CarriesOut.{CarriesOut, found_or_stop, id_named}
use Rattle.command_base.specs.DeviceText.{DeviceTextOf}
use Rattle.command_base.specs.DeviceFiles.{AskedBytes, asked_files, paths_asked}
use Rattle.command_base.specs.FileWords.{set_asked, texts_of}
use Rattle.command_base.specs.Inputs.{Places}
use Rattle.command_base.specs.Output.{Output, Prints}
use Rattle.command_base.specs.StackBytes.{LayerBytes}
use Rattle.command_base.specs.Stop.{StopOf}
use Rattle.command_base.specs.names.Named.{NamedOf, named_of}
use Rattle.command_base.specs.names.NamedIds.{ids_named}
use Rattle.resource_tool.specs.declared.attr.Attr.{Attr}
use Rattle.resource_tool.specs.declared.attr.OpenAttr.{OpenAttr}
use Rattle.resource_tool.specs.Opened.{OpenedOf, opened_in, opened_by}
use Rattle.resource_tool.specs.OpenedSeen.{opened_of}
use Rattle.resource_tool.specs.EndStatus.{status_of_end}
use Rattle.resource_tool.specs.BagOutput.{no_bag, no_bag_json}

-- the line `ID END`; each id is followed by its name, where names are asked for
unfoldable pub attribute_line : List LayerOf → ℕ → End → Bool → List ℕ
attribute_line stack attr end names = id_text attr ++ name_beside stack attr names ++ codes " " ++ end_with_name stack None end names ++ 10 ∷ []

-- it is done where the end is not absent and not too long
abbrev pub end_output : List LayerOf → ℕ → End → Bool → Output
end_output stack attr end names = record { status = status_of_end end; text = attribute_line stack attr end names }

-- where an attribute ends after styles, or why the first of them that is no bag, or has too many parents, is refused
abbrev pub end_or_reason : List LayerOf → ℕ → List ℕ → Bool → Result AttributeValues BagFault → Output
end_or_reason stack attr d names (Ok values) = end_output stack attr (attribute_of stack values attr d) names
end_or_reason stack attr d names (Err fault) = no_bag fault

-- What `attr` prints of layers and a device that were opened: where the attribute ends after styles that are applied to
-- nothing in their order, with or without force. Where names are asked for, they stand beside the ids.
abbrev pub attr_answer : OpenedOf → ℕ → List ResId → Bool → Bool → Output
attr_answer asked attr styles force names =
    end_or_reason asked.stack attr asked.device names (values_after_styles asked.stack force styles unset asked.device)

-- The same in Android's notation, where the tables of the layers lie at these paths.

abbrev pub told_or_reason : NamingOf → Bool → ℕ → List ℕ → List ResId → Result AttributeValues BagFault → Output
told_or_reason naming force attr d styles (Ok values) = record {
  status = status_of_end (attribute_of naming.stack values attr d);
  text = attr_notation naming force attr d styles (slot_of values attributes_followed attr);
}
told_or_reason naming force attr d styles (Err fault) = no_bag fault

abbrev pub attr_in_notation : OpenedOf → List (List ℕ) → ℕ → List ResId → Bool → Output
attr_in_notation asked paths attr styles force =
    told_or_reason (record { stack = asked.stack; paths = paths }) force attr asked.device styles
    (values_after_styles asked.stack force styles unset asked.device)

-- The same as lines of JSON.

abbrev pub json_or_reason : NamingOf → Bool → ℕ → List ℕ → List ResId → Result AttributeValues BagFault → Output
json_or_reason naming force attr d styles (Ok values) = record {
  status = status_of_end (attribute_of naming.stack values attr d);
  text = attr_json naming force attr d styles (slot_of values attributes_followed attr);
}
json_or_reason naming force attr d styles (Err fault) = no_bag_json fault

abbrev pub attr_in_json : OpenedOf → List (List ℕ) → ℕ → List ResId → Bool → Output
attr_in_json asked paths attr styles force =
    json_or_reason (record { stack = asked.stack; paths = paths }) force attr asked.device styles
    (values_after_styles asked.stack force styles unset asked.device)

-- What `attr` prints of these layers, a device's text, an attribute and styles, with or without force, without names.
unfoldable pub attr_output : List LayerBytes → List ℕ → ℕ → List ResId → Bool → Result Output ToolFault
attr_output layers device_json attr styles force = do
  asked ← opened_in layers device_json
  Ok (attr_answer asked attr styles force false)

-- ---- what its words ask

-- layers and a device that were opened, an attribute, and the styles that are applied
pub record OpenAttrOf : Type 0 where
  pub opened : OpenedOf
  pub attr : ResId
  pub styles : List ResId

abbrev pub attr_seen : OpenAttr → OpenAttrOf
attr_seen asked = record { opened = opened_of asked.opened; attr = asked.attr; styles = asked.styles.items }

-- First come the words of files, then the faults of inputs, and then the name of the attribute, and those of styles, that
-- are not there.
unfoldable pub attr_opened : LocaleRule → List LayerBytes → DeviceTextOf → NamedOf → List (List ℕ) → Result OpenAttrOf StopOf
attr_opened rule layers device attr words = do
  sets ← each set_asked words
  opened ← opened_by rule layers device
  attr ← id_named opened.stack attr
  styles ← found_or_stop (ids_named opened.stack sets)
  Ok (record { opened = opened; attr = attr; styles = styles })

-- what is printed in this form, with or without names, where the tables of the layers lie at these paths
abbrev pub attr_printed : LineForm → Bool → Bool → List (List ℕ) → OpenAttrOf → Output
attr_printed (Text Raw) names force paths asked = attr_answer asked.opened asked.attr.0 asked.styles force names
attr_printed (Text Android) names force paths asked = attr_in_notation asked.opened paths asked.attr.0 asked.styles force
attr_printed Json names force paths asked = attr_in_json asked.opened paths asked.attr.0 asked.styles force

-- the answer from the files, if they are read
abbrev pub PrintsAttrFiles : {W : Type 0} → (W → Option (List ℕ)) → W → W → Attr → Result AskedBytes StopOf → Result Status Stop → Type 0
PrintsAttrFiles contents old new attr read result =
    CarriesOut (λ asked done. Prints contents old new done (Ok (attr_printed attr.form attr.names attr.force (paths_asked read) asked)))
    (read >>= λ files. attr_opened attr.locales files.layers files.device (named_of attr.attr) files.words) result

-- the answer from what the places have
abbrev pub PrintsAttr : {W : Type 0} → (W → Option (List ℕ)) → W → W → Places → Attr → Result Status Stop → Type 0
PrintsAttr contents old new places attr result =
    PrintsAttrFiles contents old new attr (asked_files places attr.layers.now attr.device.now (texts_of attr.styles)) result
