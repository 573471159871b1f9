-- The kinds of values that rules ask about; `kind_texts` has all kinds (AOSP: Res_value::TYPE_NULL and on).
use Rattle.std.specs.Prelude.{ℕ}

-- undefined or empty, as its word says
abbrev pub null_kind : ℕ
null_kind = 0x00

-- the id of another resource
abbrev pub reference_kind : ℕ
reference_kind = 0x01

-- the id of an attribute
abbrev pub attribute_kind : ℕ
attribute_kind = 0x02

-- the index of a string
abbrev pub string_kind : ℕ
string_kind = 0x03

-- the word of an empty value (AOSP: Res_value::DATA_NULL_EMPTY)
abbrev pub empty_word : ℕ
empty_word = 1
