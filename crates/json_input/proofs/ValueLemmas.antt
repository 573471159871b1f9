-- What was read is the value of the bytes, and what was refused has none.
use Rattle.std.proofs.Common.{◌≡◌, ℕ, List, Bool, true, false, Some, None, IsUtf8, if◌then◌else◌, refl}
use Rattle.std.specs.Str.{is_utf8}
use Rattle.std.proofs.lemmas.Str.{IsUtf8-from_is_utf8, is_utf8-from_IsUtf8}
use Rattle.serde_json.specs.Data.{Data}
use Rattle.serde_json.specs.Read.{read}
use Rattle.json_input.specs.Json.{value_of}

pub value_of-read : (bytes : List ℕ) (value : Data) → IsUtf8 bytes → read bytes ≡ Some value → value_of bytes ≡ Some value
unfolding value_of
value_of-read bytes value text was_read = rw (is_utf8-from_IsUtf8 bytes text) was_read

none_where : (bytes : List ℕ) (b : Bool) → is_utf8 bytes ≡ b → (IsUtf8 bytes → read bytes ≡ None) → (if b then read bytes else None) ≡ None
none_where bytes true text refused = refused (IsUtf8-from_is_utf8 bytes text)
none_where bytes false text refused = refl

pub value_of-refused : (bytes : List ℕ) → (IsUtf8 bytes → read bytes ≡ None) → value_of bytes ≡ None
unfolding value_of
value_of-refused bytes refused = none_where bytes (is_utf8 bytes) refl refused

pub ruleset readings = (value_of-read, value_of-refused)
