-- What a value says: a string by its text, an id by what it is called, and any other value by itself.
use Rattle.std.specs.Prelude.{ℕ, true, ◌==◌, List, if◌then◌else◌, Option, Some, None, Result, Ok, Err}
use Rattle.answer_text.specs.OnLine.{on_line}
use Rattle.bags_themes.specs.string_pool.Pool.{PoolOf}
use Rattle.bags_themes.specs.string_pool.Text.{TextOf, text_in}
use Rattle.bags_themes.specs.string_pool.Shown.{shown_text}
use Rattle.bags_themes.specs.string_pool.string_bytes.declared.fault.StringFault.{StringFault}
use Rattle.bags_themes.specs.string_pool.string_bytes.declared.fault.StringFault.TheVariants as faults
use Rattle.bags_themes.specs.res_value.Kind.{string_kind, reference_kind, attribute_kind}
use Rattle.bags_themes.specs.res_value.declared.value.Value.{Value}
use Rattle.bags_themes.specs.overlay_map.Layer.{LayerOf}
use Rattle.answer_text.specs.QueryText.{strings_of_layer}
use Rattle.names.specs.NameText.{name_text}
use Rattle.names.specs.Surrogates.{with_pairs}
use Rattle.names.specs.IdLabel.{label_of_id}
use Rattle.answer_text.specs.declared.content.BrokenString.TheVariants as broken
use Rattle.answer_text.specs.ReadWord.{word_read}
use Rattle.answer_text.specs.Content.{ValueContentOf, StringOf, GarbledOf, BrokenOf, ReferenceOf, AttributeOf, OtherOf}

-- ---- strings

-- a string of UTF-8 in which two surrogates that make a pair are their character
abbrev pub paired : TextOf → TextOf
paired string = if string.utf8 then record { utf8 = true; bytes = with_pairs string.bytes } else string

-- by its text; what is no text, as it is shown
abbrev pub text_or_shown : TextOf → Option (List ℕ) → ValueContentOf
text_or_shown string (Some text) = StringOf text
text_or_shown string None = GarbledOf (on_line (shown_text (paired string)))

-- a string of this index, or why it cannot be read
unfoldable pub read_content : ℕ → Result TextOf StringFault → ValueContentOf
read_content index (Ok string) = text_or_shown string (name_text (Ok string))
read_content index (Err faults.NoSuch) = BrokenOf (broken.NoSuch index)
read_content index (Err faults.Cut) = BrokenOf (broken.Cut index)
read_content index (Err faults.NotEnded) = BrokenOf (broken.NotEnded index)

-- a layer that is not there has no strings
unfoldable pub string_content : Option PoolOf → ℕ → ValueContentOf
string_content None index = BrokenOf (broken.NoSuch index)
string_content (Some strings) index = read_content index (text_in strings index)

-- ---- values

-- what a value says that a row of this layer holds; of another value the word is kept as it is read
unfoldable pub value_content : List LayerOf → ℕ → Value → ValueContentOf
value_content stack layer value =
    if value.kind == string_kind then string_content (strings_of_layer stack layer) value.word
    else if value.kind == reference_kind then ReferenceOf (label_of_id stack value.word)
    else if value.kind == attribute_kind then AttributeOf (label_of_id stack value.word)
    else OtherOf (record { kind = value.kind; word = word_read value.kind value.word })
