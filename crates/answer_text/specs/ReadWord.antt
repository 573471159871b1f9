-- What a device reads of a kind and a word.
use Rattle.std.specs.Prelude.{ℕ, ◌==◌, Bool, ◌&&◌, ◌||◌, not, nat_lt, bit_and, if◌then◌else◌}

abbrev pub is_boolean : ℕ → Bool
is_boolean kind = kind == 0x12

-- integers and colours, but no booleans (AOSP: Res_value::TYPE_FIRST_INT to TYPE_LAST_INT)
abbrev pub is_number : ℕ → Bool
is_number kind = not (nat_lt kind 0x10) && not (nat_lt 0x1f kind) && not (is_boolean kind)

-- dimensions and fractions
abbrev pub is_complex : ℕ → Bool
is_complex kind = kind == 0x05 || kind == 0x06

-- all numbers are of one kind
unfoldable pub kind_read : ℕ → ℕ
kind_read kind = if is_number kind then 0x10 else kind

-- Every word but 0 is true, which tools write with all bits. Bits 6 and 7 of a dimension or a fraction say nothing.
unfoldable pub word_read : ℕ → ℕ → ℕ
word_read kind word =
    if is_boolean kind && not (word == 0) then 0xffffffff
    else if is_complex kind then bit_and word 0xffffff3f
    else word
