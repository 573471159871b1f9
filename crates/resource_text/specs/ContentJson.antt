-- What resources say, as JSON values. An object is told member by member; they stand in it in the order of their names' bytes.
use Rattle.std.specs.Prelude.{ℕ, List, codes, map, Option, Some, None}
use Rattle.serde_json.specs.Data.{Data, string, object, Members, no_members, put as with_member}
use Rattle.notation.specs.declared.form.Form.TheVariants.{Android}
use Rattle.res_value.specs.declared.value.Value.{Value}
use Rattle.names.specs.Label.{LabelOf}
use Rattle.names.specs.LabelText.{label_text}
use Rattle.names.specs.Packages.{PackageNameOf}
use Rattle.answer_text.specs.Content.{ValueContentOf, StringOf, GarbledOf, BrokenOf, ReferenceOf, AttributeOf, OtherOf, RowKeyOf, PlaceOf, QuantityOf, CalledOf, RowContentOf, ContentOf, ValueOf, BagOf, AbsentOf, TooManyReferencesOf, TooManyParentsOf}
use Rattle.answer_text.specs.InForm.{value_in, key_in, row_value_in}
use Rattle.answer_text.specs.ValueText.{broken_text}
use Rattle.resource_text.specs.TextJson.{text_data, number_data, list_data}

-- ---- names

-- what a resource is called, as the text has it: its name, or its id
abbrev pub label_data : List PackageNameOf → LabelOf → Data
label_data packages label = text_data (label_text packages label)

-- ---- values

-- with a kind and a word
abbrev pub with_kind_and_word : Value → Members → Members
with_kind_and_word value others = with_member (codes "word") (number_data value.word) (with_member (codes "kind") (number_data value.kind) others)

-- with those that a row holds, where they are told
unfoldable pub with_stored : Option Value → Members → Members
with_stored (Some value) others = with_member (codes "stored") (object (with_kind_and_word value no_members)) others
with_stored None others = others

-- with what a value says, beside other members
unfoldable pub with_value : List PackageNameOf → ValueContentOf → Members → Members
with_value packages (StringOf text) others = with_member (codes "string") (string text) others
with_value packages (GarbledOf text) others = with_member (codes "garbled") (text_data text) others
with_value packages (BrokenOf broken) others = with_member (codes "broken") (text_data (broken_text broken)) others
with_value packages (ReferenceOf label) others = with_member (codes "reference") (label_data packages label) others
with_value packages (AttributeOf label) others = with_member (codes "attribute") (label_data packages label) others
with_value packages (OtherOf value) others = with_kind_and_word value others

-- what a value says, and beside it this text, the value as it stands in XML, and what the row holds
unfoldable pub value_data : List PackageNameOf → Option Value → ValueContentOf → List ℕ → Data
value_data packages stored value xml = object (with_value packages value (with_stored stored (with_member (codes "xml") (text_data xml) no_members)))

-- ---- rows of bags

-- a place by its number, else a quantity or a name
unfoldable pub key_data : List PackageNameOf → RowKeyOf → Data
key_data packages (PlaceOf place) = number_data place
key_data packages (QuantityOf quantity) = text_data (key_in Android packages (QuantityOf quantity))
key_data packages (CalledOf label) = text_data (key_in Android packages (CalledOf label))

-- with the key of a row
abbrev pub with_key : List PackageNameOf → RowKeyOf → Members → Members
with_key packages key others = with_member (codes "key") (key_data packages key) others

-- with the value of a row that has this key, at a name
abbrev pub with_row_value : List PackageNameOf → List ℕ → Option Value → RowKeyOf → ValueContentOf → Members → Members
with_row_value packages name stored key value others = with_member name (value_data packages stored value (row_value_in Android packages key value)) others

-- with both
unfoldable pub with_row : List PackageNameOf → Option Value → RowKeyOf → ValueContentOf → Members → Members
with_row packages stored key value others = with_row_value packages (codes "value") stored key value (with_key packages key others)

abbrev pub row_data : List PackageNameOf → RowContentOf → Data
row_data packages row = object (with_row packages None row.key row.value no_members)

-- ---- resources

-- with a value, the rows of a bag, or why there is neither: what the resource is called that it is about
unfoldable pub with_content : List PackageNameOf → ContentOf → Members → Members
with_content packages (ValueOf value) others = with_member (codes "value") (value_data packages None value (value_in Android packages value)) others
with_content packages (BagOf rows) others = with_member (codes "bag") (list_data (map (row_data packages) rows)) others
with_content packages (AbsentOf label) others = with_member (codes "absent") (label_data packages label) others
with_content packages (TooManyReferencesOf label) others = with_member (codes "tooManyReferences") (label_data packages label) others
with_content packages (TooManyParentsOf label) others = with_member (codes "tooManyParents") (label_data packages label) others

abbrev pub content_data : List PackageNameOf → ContentOf → Data
content_data packages content = object (with_content packages content no_members)
