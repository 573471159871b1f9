-- The text of a value as XML writes it.
use Rattle.std.specs.Prelude.{ℕ, ◌==◌, ◌&&◌, ◌||◌, ◌-◌, ◌^◌, not, Bool, List, [], ◌∷◌, ◌++◌, codes, Option, Some, None, unwrap_or, false, if◌then◌else◌}
use Rattle.std.specs.Fmt.{digits, signed_decimal}
use Rattle.res_value.specs.declared.value.Value.{Value}
use Rattle.res_value.specs.Kind.{empty_word}
use Rattle.res_value.specs.Word.{eight_digits}
use Rattle.res_value.specs.Complex.{signed_number, dimension_units, fraction_units}
use Rattle.res_value.specs.ValueText.{text_among, value_text}
use Rattle.notation.specs.ComplexNotation.{spare_bits, complex_notation}
use Rattle.notation.specs.FloatNotation.{float_notation}
use Rattle.notation.specs.ColorNotation.{argb8_notation, rgb8_notation, argb4_notation, rgb4_notation}

-- empty (AOSP: DATA_NULL_EMPTY)
unfoldable pub null_notation : ℕ → Option (List ℕ)
null_notation word = if word == empty_word then Some (codes "@empty") else None

-- tools write a reference to 0 for `@null`; the names of others are not known here
unfoldable pub reference_notation : ℕ → Option (List ℕ)
reference_notation word = if word == 0 then Some (codes "@null") else None

-- all bits or none
unfoldable pub boolean_notation : ℕ → Option (List ℕ)
boolean_notation word =
    if word == 0 then Some (codes "false") else if word == 2 ^ 32 - 1 then Some (codes "true") else None

-- What XML writes of the word, for each kind (AOSP: Res_value::TYPE_NULL to TYPE_INT_COLOR_RGB4); nothing where that would
-- not show all bits.
abbrev pub kind_notations : List (ℕ × (ℕ → Option (List ℕ)))
kind_notations =
    (0x00, null_notation)
    ∷ (0x01, reference_notation)
    ∷ (0x04, float_notation)
    ∷ (0x05, complex_notation 1 dimension_units)
    ∷ (0x06, complex_notation 100 fraction_units)
    ∷ (0x10, λ word. Some (signed_decimal (signed_number 32 word)))
    ∷ (0x11, λ word. Some (codes "0x" ++ digits 16 false word))
    ∷ (0x12, boolean_notation)
    ∷ (0x1c, λ word. argb8_notation (eight_digits word))
    ∷ (0x1d, λ word. rgb8_notation (eight_digits word))
    ∷ (0x1e, λ word. argb4_notation (eight_digits word))
    ∷ (0x1f, λ word. rgb4_notation (eight_digits word))
    ∷ []

-- Any other value has its text of ValueText.antt, which shows the whole word but of truth values, and of dimensions and fractions
-- the bits that say nothing. Those are written as values of an unknown kind are.
abbrev pub hides_bits : Value → Bool
hides_bits value =
    value.kind == 0x12 || ((value.kind == 0x05 || value.kind == 0x06) && not (spare_bits value.word == 0))

unfoldable pub exact_text : Value → List ℕ
exact_text value = if hides_bits value then text_among [] value else value_text value

abbrev pub notation_among : List (ℕ × (ℕ → Option (List ℕ))) → Value → List ℕ
notation_among [] value = exact_text value
notation_among (row ∷ rows) value =
    if value.kind == row.0 then unwrap_or (row.1 value.word) (exact_text value) else notation_among rows value

unfoldable pub xml_text : Value → List ℕ
xml_text value = notation_among kind_notations value
