-- What a device reads of a value, whatever it was written as.
use Rattle.std.specs.Prelude.{◌==◌, Bool, false, ◌&&◌, map}
use Rattle.std.specs.Str.{bytes_eq}
use Rattle.bags_themes.specs.res_value.declared.value.Value.{Value}
use Rattle.names.specs.Label.{is_same}
use Rattle.answer_text.specs.declared.content.BrokenString.{BrokenString}
use Rattle.answer_text.specs.declared.content.BrokenString.TheVariants.{NoSuch, Cut, NotEnded}
use Rattle.answer_text.specs.ReadWord.{kind_read, word_read}
use Rattle.answer_text.specs.Content.{ValueContentOf, StringOf, GarbledOf, BrokenOf, ReferenceOf, AttributeOf, OtherOf, RowContentOf, ContentOf, ValueOf, BagOf}

-- ---- values

abbrev pub read : Value → Value
read value = record { kind = kind_read value.kind; word = word_read value.kind value.word }

abbrev pub value_read : ValueContentOf → ValueContentOf
value_read (OtherOf value) = OtherOf (read value)
value_read content = content

-- ---- contents

abbrev pub row_read : RowContentOf → RowContentOf
row_read row = record { key = row.key; value = value_read row.value }

abbrev pub content_read : ContentOf → ContentOf
content_read (ValueOf value) = ValueOf (value_read value)
content_read (BagOf rows) = BagOf (map row_read rows)
content_read content = content

-- ---- values that are read alike

abbrev pub are_read_alike : Value → Value → Bool
are_read_alike a b = kind_read a.kind == kind_read b.kind && word_read a.kind a.word == word_read b.kind b.word

abbrev pub is_same_broken : BrokenString → BrokenString → Bool
is_same_broken (NoSuch a) (NoSuch b) = a == b
is_same_broken (Cut a) (Cut b) = a == b
is_same_broken (NotEnded a) (NotEnded b) = a == b
is_same_broken a b = false

unfoldable pub are_alike : ValueContentOf → ValueContentOf → Bool
are_alike (StringOf a) (StringOf b) = bytes_eq a b
are_alike (GarbledOf a) (GarbledOf b) = bytes_eq a b
are_alike (BrokenOf a) (BrokenOf b) = is_same_broken a b
are_alike (ReferenceOf a) (ReferenceOf b) = is_same a b
are_alike (AttributeOf a) (AttributeOf b) = is_same a b
are_alike (OtherOf a) (OtherOf b) = are_read_alike a b
are_alike a b = false
