-- The text of a name.
use Rattle.std.specs.Prelude.{ℕ, List, Option, Some, None, Result, Ok, Err, if◌then◌else◌}
use Rattle.std.specs.Char.Utf16.{has_unpaired_surrogate, utf16_lossy_chars}
use Rattle.std.specs.Str.{is_utf8, encode_utf8_all}
use Rattle.string_pool.specs.string_bytes.declared.fault.StringFault.{StringFault}
use Rattle.string_pool.specs.Text.{TextOf}
use Rattle.string_pool.specs.Units.{units_in}
use Rattle.names.specs.Surrogates.{with_pairs}

-- bytes that are UTF-8
abbrev pub if_utf8 : List ℕ → Option (List ℕ)
if_utf8 bytes = if is_utf8 bytes then Some bytes else None

-- bytes that are UTF-8, as they stand or where two surrogates that make a pair are their character
unfoldable pub text_of_bytes : List ℕ → Option (List ℕ)
text_of_bytes bytes = if is_utf8 bytes then Some bytes else if_utf8 (with_pairs bytes)

-- units of UTF-16, as UTF-8; none where a surrogate is alone
abbrev pub text_of_units : List ℕ → Option (List ℕ)
text_of_units units = if has_unpaired_surrogate units then None else Some (encode_utf8_all (utf16_lossy_chars units))

-- a name as UTF-8; none where it cannot be read, or is no text
unfoldable pub name_text : Result TextOf StringFault → Option (List ℕ)
name_text (Ok name) = if name.utf8 then text_of_bytes name.bytes else text_of_units (units_in name.bytes)
name_text (Err fault) = None
