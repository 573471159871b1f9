-- How strings are shown: between quotes, as UTF-8, with an escape for what is no character and for the
-- control characters of ASCII.
use Rattle.std.specs.Prelude.{ℕ, zero, suc, ◌-◌, ◌/◌, ◌%◌, ◌^◌, Bool, ◌&&◌, ◌||◌, List, [], ◌∷◌, ◌++◌, Option, Some, None, is_some, Result, Ok, Err, codes, encode_utf8, nat_lt, ◌==◌, if◌then◌else◌}
use Rattle.std.specs.Char.Utf16.{is_high_surrogate, is_low_surrogate, surrogate_pair_char}
use Rattle.bstr.specs.Utf8.{Decoded, decoded}
use Rattle.hex.specs.Hex.{encode_lower}
use Rattle.string_bytes.specs.declared.fault.StringFault.{StringFault}
use Rattle.string_bytes.specs.declared.fault.StringFault.TheVariants.{NoSuch, Cut, NotEnded}
use Rattle.string_pool.specs.Text.{TextOf}
use Rattle.string_pool.specs.Units.{units_in}

abbrev pub quote : ℕ
quote = 0x22

abbrev pub backslash : ℕ
backslash = 0x5c

-- a byte as `\x` and two digits
abbrev pub byte_escape : ℕ → List ℕ
byte_escape byte = codes "\\x" ++ encode_lower (byte ∷ [])

-- a unit of UTF-16 as `\u` and four digits
abbrev pub unit_escape : ℕ → List ℕ
unit_escape unit = codes "\\u" ++ encode_lower (unit / 2 ^ 8 ∷ unit % 2 ^ 8 ∷ [])

-- a character that takes a `\` before it
abbrev pub takes_backslash : ℕ → Bool
takes_backslash c = c == quote || c == backslash

-- a control character of ASCII
abbrev pub is_control : ℕ → Bool
is_control c = nat_lt c 0x20 || c == 0x7f

-- how a character is shown
abbrev pub character_text : ℕ → List ℕ
character_text c =
    if takes_backslash c then backslash ∷ c ∷ []
    else if is_control c then byte_escape c
    else encode_utf8 c

-- the front of bytes that are read as UTF-8: a character, or a byte at which none can be decoded
abbrev pub front_text : ℕ → Option ℕ → List ℕ
front_text byte (Some c) = character_text c
front_text byte None = byte_escape byte

-- how many bytes behind the first belong to a character
abbrev pub bytes_behind : Decoded → ℕ
bytes_behind front = if is_some front.char then front.size - 1 else 0

-- Bytes that are read as UTF-8. The first n of them belong to a character that was shown; at the byte
-- behind those the next character is decoded. Where none can be decoded, reading goes on at the next
-- byte.
unfoldable pub bytes_text_after : ℕ → List ℕ → List ℕ
bytes_text_after n [] = []
bytes_text_after (suc n) (_ ∷ bytes) = bytes_text_after n bytes
bytes_text_after zero (byte ∷ bytes) =
    let front = decoded (byte ∷ bytes) in
    front_text byte front.char ++ bytes_text_after (bytes_behind front) bytes

abbrev pub bytes_text : List ℕ → List ℕ
bytes_text bytes = bytes_text_after 0 bytes

-- a unit that is in no pair of surrogates: a character, or a lone surrogate
abbrev pub unit_text : ℕ → List ℕ
unit_text unit = if is_high_surrogate unit || is_low_surrogate unit then unit_escape unit else character_text unit

-- units of UTF-16; two that are a pair of surrogates are one character
unfoldable pub units_text : List ℕ → List ℕ
units_text [] = []
units_text (unit ∷ []) = unit_text unit
units_text (high ∷ low ∷ units) =
    if is_high_surrogate high && is_low_surrogate low then character_text (surrogate_pair_char high low) ++ units_text units
    else unit_text high ++ units_text (low ∷ units)

-- how a string is shown
unfoldable pub shown_text : TextOf → List ℕ
shown_text string =
    codes "\"" ++ (if string.utf8 then bytes_text string.bytes else units_text (units_in string.bytes)) ++ codes "\""

-- what was asked for: a string, or why there is none, which stands without quotes
unfoldable pub string_text : Result TextOf StringFault → List ℕ
string_text (Ok string) = shown_text string
string_text (Err NoSuch) = codes "!NoSuch"
string_text (Err Cut) = codes "!Cut"
string_text (Err NotEnded) = codes "!NotEnded"
