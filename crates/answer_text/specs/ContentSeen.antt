-- How contracts see contents: by what they say, not by their addresses.
use Rattle.std.specs.Prelude.{map}
use Rattle.std.specs.Cow.{cow_str_bytes}
use Rattle.names.specs.Label.{label_of}
use Rattle.answer_text.specs.declared.content.Content.{Content}
use Rattle.answer_text.specs.declared.content.Content.TheVariants as of_content
use Rattle.answer_text.specs.declared.content.RowContent.{RowContent}
use Rattle.answer_text.specs.declared.content.RowKey.{RowKey}
use Rattle.answer_text.specs.declared.content.RowKey.TheVariants as of_key
use Rattle.answer_text.specs.declared.content.ValueContent.{ValueContent}
use Rattle.answer_text.specs.declared.content.ValueContent.TheVariants as of_value
use Rattle.answer_text.specs.Content.{ValueContentOf, StringOf, GarbledOf, BrokenOf, ReferenceOf, AttributeOf, OtherOf, RowKeyOf, PlaceOf, QuantityOf, CalledOf, RowContentOf, ContentOf, ValueOf, BagOf, AbsentOf, TooManyReferencesOf, TooManyParentsOf}

abbrev pub value_content_of : ValueContent → ValueContentOf
value_content_of (of_value.String text) = StringOf (cow_str_bytes text)
value_content_of (of_value.Garbled text) = GarbledOf text.items
value_content_of (of_value.Broken string) = BrokenOf string
value_content_of (of_value.Reference label) = ReferenceOf (label_of label)
value_content_of (of_value.Attribute label) = AttributeOf (label_of label)
value_content_of (of_value.Other kind word) = OtherOf (record { kind = kind; word = word })

abbrev pub row_key_of : RowKey → RowKeyOf
row_key_of (of_key.Place place) = PlaceOf place
row_key_of (of_key.Quantity quantity) = QuantityOf quantity
row_key_of (of_key.Called label) = CalledOf (label_of label)

abbrev pub row_content_of : RowContent → RowContentOf
row_content_of row = record { key = row_key_of row.key; value = value_content_of row.value }

abbrev pub content_of : Content → ContentOf
content_of (of_content.Value value) = ValueOf (value_content_of value)
content_of (of_content.Bag rows) = BagOf (map row_content_of rows.items)
content_of (of_content.Absent label) = AbsentOf (label_of label)
content_of (of_content.TooManyReferences label) = TooManyReferencesOf (label_of label)
content_of (of_content.TooManyParents label) = TooManyParentsOf (label_of label)
