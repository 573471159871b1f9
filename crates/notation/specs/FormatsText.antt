-- The formats of an attribute, in the words of XML.
use Rattle.std.specs.Prelude.{ℕ, ◌-◌, ◌/◌, ◌%◌, ◌^◌, ◌==◌, ◌&&◌, ◌||◌, not, nat_lt, Bool, List, [], ◌∷◌, ◌++◌, codes, Option, Some, None, unwrap_or, if◌then◌else◌}
use Rattle.std.specs.List.{flat_map, join_with_byte}
use Rattle.res_value.specs.declared.value.Value.{Value}
use Rattle.notation.specs.declared.formats.Format.{Format}
use Rattle.notation.specs.XmlText.{xml_text}

-- a word, and the bit that stands for it
pub record FormatOf : Type 0 where
  pub bit : ℕ
  pub word : List ℕ

abbrev pub format_of : Format → FormatOf
format_of format = record { bit = format.bit; word = format.word.now }

abbrev pub format : ℕ → List ℕ → FormatOf
format bit word = record { bit = bit; word = word }

-- (AOSP: ResTable_map::TYPE_REFERENCE to TYPE_FRACTION)
unfoldable pub types : List FormatOf
types =
    format 0 (codes "reference") ∷ format 1 (codes "string") ∷ format 2 (codes "integer") ∷ format 3 (codes "boolean")
    ∷ format 4 (codes "color") ∷ format 5 (codes "float") ∷ format 6 (codes "dimension") ∷ format 7 (codes "fraction")
    ∷ []

-- (AOSP: ResTable_map::TYPE_ENUM, TYPE_FLAGS)
unfoldable pub choices : List FormatOf
choices = format 16 (codes "enum") ∷ format 17 (codes "flags") ∷ []

-- all types, those without a word too (AOSP: ResTable_map::TYPE_ANY)
abbrev pub is_any : ℕ → Bool
is_any bits = bits % 2 ^ 16 == 2 ^ 16 - 1

unfoldable pub set_word : ℕ → FormatOf → List (List ℕ)
set_word bits format = if bits / 2 ^ format.bit % 2 == 1 then format.word ∷ [] else []

abbrev pub set_words : List FormatOf → ℕ → List (List ℕ)
set_words formats bits = flat_map (set_word bits) formats

unfoldable pub type_words : ℕ → List (List ℕ)
type_words bits = if is_any bits then codes "any" ∷ [] else set_words types bits

-- one bit is set, and each that is has a word
abbrev pub has_words : ℕ → Bool
has_words bits = not (bits == 0) && nat_lt bits (2 ^ 18) && (is_any bits || nat_lt (bits % 2 ^ 16) (2 ^ 8))

-- '|'
abbrev pub bar : ℕ
bar = 124

unfoldable pub formats_notation : ℕ → Option (List ℕ)
formats_notation bits = if has_words bits then Some (join_with_byte bar (type_words bits ++ set_words choices bits)) else None

-- of a whole number; what has no words is written as XML has it
abbrev pub is_whole : Value → Bool
is_whole value = value.kind == 0x10 || value.kind == 0x11

unfoldable pub formats_text : Value → List ℕ
formats_text value = if is_whole value then unwrap_or (formats_notation value.word) (xml_text value) else xml_text value
