-- The text of a value.
use Rattle.std.specs.Prelude.{ℕ, List, [], ◌∷◌, ◌++◌, codes, ◌==◌, if◌then◌else◌}
use Rattle.std.specs.Fmt.{decimal, signed_decimal}
use Rattle.hex.specs.Hex.{encode_lower}
use Rattle.res_value.specs.declared.value.Value.{Value}
use Rattle.res_value.specs.Word.{eight_digits}
use Rattle.res_value.specs.Complex.{signed_number, dimension_units, fraction_units, complex_text}

-- nothing, which is undefined or empty (AOSP: DATA_NULL_UNDEFINED, DATA_NULL_EMPTY)
unfoldable pub null_text : ℕ → List ℕ
null_text word =
    if word == 0 then codes "null"
    else if word == 1 then codes "empty"
    else codes "null 0x" ++ eight_digits word

-- every word but 0 is true
unfoldable pub boolean_text : ℕ → List ℕ
boolean_text word = if word == 0 then codes "false" else codes "true"

-- What is shown of the word, for each kind (AOSP: Res_value::TYPE_NULL to TYPE_INT_COLOR_RGB4).
abbrev pub kind_texts : List (ℕ × (ℕ → List ℕ))
kind_texts =
    (0x00, null_text)
    ∷ (0x01, λ word. codes "@0x" ++ eight_digits word)
    ∷ (0x02, λ word. codes "?0x" ++ eight_digits word)
    ∷ (0x03, λ word. codes "string " ++ decimal word)
    ∷ (0x04, λ word. codes "float 0x" ++ eight_digits word)
    ∷ (0x05, λ word. codes "dimension " ++ complex_text dimension_units word)
    ∷ (0x06, λ word. codes "fraction " ++ complex_text fraction_units word)
    ∷ (0x07, λ word. codes "dynamic 0x" ++ eight_digits word)
    ∷ (0x10, λ word. codes "decimal " ++ signed_decimal (signed_number 32 word))
    ∷ (0x11, λ word. codes "hex 0x" ++ eight_digits word)
    ∷ (0x12, boolean_text)
    ∷ (0x1c, λ word. codes "argb8 #" ++ eight_digits word)
    ∷ (0x1d, λ word. codes "rgb8 #" ++ eight_digits word)
    ∷ (0x1e, λ word. codes "argb4 #" ++ eight_digits word)
    ∷ (0x1f, λ word. codes "rgb4 #" ++ eight_digits word)
    ∷ []

-- The text of the row of the value's kind. A kind without a row is shown by its number.
abbrev pub text_among : List (ℕ × (ℕ → List ℕ)) → Value → List ℕ
text_among [] value = codes "kind 0x" ++ encode_lower (value.kind ∷ []) ++ codes " 0x" ++ eight_digits value.word
text_among (row ∷ rows) value = if value.kind == row.0 then row.1 value.word else text_among rows value

-- how a value is shown
unfoldable pub value_text : Value → List ℕ
value_text value = text_among kind_texts value
