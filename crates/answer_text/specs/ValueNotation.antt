-- What values and the rows of bags say, in Android's notation: as XML has them.
use Rattle.std.specs.Prelude.{ℕ, ◌==◌, Bool, false, List, ◌++◌, codes, Option, Some, None, if◌then◌else◌}
use Rattle.bags_themes.specs.res_value.ResId.{id_text}
use Rattle.bags_themes.specs.res_value.declared.res_id.ResId.{ResId}
use Rattle.notation.specs.XmlText.{xml_text}
use Rattle.notation.specs.FormatsText.{formats_text}
use Rattle.names.specs.Label.{LabelOf, ByName, ById}
use Rattle.names.specs.LabelText.{label_text}
use Rattle.names.specs.Packages.{PackageNameOf}
use Rattle.answer_text.specs.Content.{ValueContentOf, ReferenceOf, OtherOf, RowKeyOf, CalledOf}
use Rattle.answer_text.specs.ValueText.{value_content_text, key_text}

-- ---- values

-- `@type/name`, and `@null` where there is nothing
unfoldable pub reference_notation : List PackageNameOf → LabelOf → List ℕ
reference_notation packages (ById id) = if id.0 == 0 then codes "@null" else codes "@" ++ label_text packages (ById id)
reference_notation packages (ByName name) = codes "@" ++ label_text packages (ByName name)

-- a string between quotes, an id by its label, any other value as XML writes it
unfoldable pub value_notation : List PackageNameOf → ValueContentOf → List ℕ
value_notation packages (ReferenceOf label) = reference_notation packages label
value_notation packages (OtherOf value) = xml_text value
value_notation packages content = value_content_text packages content

-- ---- keys

-- the words of what an attribute says of itself (AOSP: ResTable_map::ATTR_TYPE, ATTR_MIN, ATTR_MAX, ATTR_L10N)
unfoldable pub attribute_word : ℕ → Option (List ℕ)
attribute_word id =
    if id == 0x01000000 then Some (codes "format")
    else if id == 0x01000001 then Some (codes "min")
    else if id == 0x01000002 then Some (codes "max")
    else if id == 0x01000003 then Some (codes "localization")
    else None

abbrev pub word_or_id : ResId → Option (List ℕ) → List ℕ
word_or_id id (Some word) = word
word_or_id id None = id_text id.0

-- `[PLACE]`, a quantity, one of those words, or a label
unfoldable pub key_notation : List PackageNameOf → RowKeyOf → List ℕ
key_notation packages (CalledOf (ById id)) = word_or_id id (attribute_word id.0)
key_notation packages key = key_text packages key

-- ---- rows

-- whether a row says which formats an attribute has
abbrev pub is_of_formats : RowKeyOf → Bool
is_of_formats (CalledOf (ById id)) = id.0 == 0x01000000
is_of_formats key = false

-- the words of formats, where a number says them
abbrev pub formats_notation : List PackageNameOf → ValueContentOf → List ℕ
formats_notation packages (OtherOf value) = formats_text value
formats_notation packages content = value_notation packages content

-- the value of a row
unfoldable pub row_notation : List PackageNameOf → RowKeyOf → ValueContentOf → List ℕ
row_notation packages key value = if is_of_formats key then formats_notation packages value else value_notation packages value
