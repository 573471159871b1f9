-- What the code knows of a string while it writes it. Contracts within the crate alone speak of this.
use Rattle.std.specs.Prelude.{◌≡◌, ℕ, ◌≤◌, List, [], ◌∷◌, ◌++◌, length, take, drop, slice_get, Bool, true, not, ◌&&◌, ◌||◌, Option, Some, None, Result, Ok, Err, if◌then◌else◌}
use Rattle.std.specs.Char.{is_ascii}
use Rattle.std.specs.Char.Utf16.{is_high_surrogate, is_low_surrogate, surrogate_pair_char}
use Rattle.string_pool.specs.Shown.{backslash, byte_escape, takes_backslash, is_control, character_text, bytes_text, unit_escape}

-- how a byte is shown that does not stand for itself
abbrev pub escape_text : ℕ → List ℕ
escape_text byte = if takes_backslash byte then backslash ∷ byte ∷ [] else byte_escape byte

-- so many bytes at the front are shown as they stand
pub record IsPlain (left : List ℕ) (width : ℕ) : Type 0 where
  pub within : width ≤ length left
  pub text : bytes_text left ≡ take width left ++ bytes_text (drop width left)

-- no character of ASCII that takes an escape
abbrev pub is_unescaped : ℕ → Bool
is_unescaped byte = not (takes_backslash byte || is_control byte)

-- a character of ASCII that stands for itself
abbrev pub is_plain_byte : ℕ → Bool
is_plain_byte byte = is_ascii byte && is_unescaped byte

-- such a character stands at the front
abbrev pub BeginsPlain : List ℕ → Type 0
BeginsPlain left = (byte : ℕ) × (slice_get left 0 ≡ Some byte) × (is_plain_byte byte ≡ true)

-- the byte at the front, if there is one, does not stand for itself
pub record BeginsEscape (left : List ℕ) : Type 0 where
  pub text : (byte : ℕ) (others : List ℕ) → left ≡ byte ∷ others → bytes_text left ≡ escape_text byte ++ bytes_text others

-- a character, or a lone surrogate
abbrev pub piece_text : Result ℕ ℕ → List ℕ
piece_text (Ok c) = character_text c
piece_text (Err unit) = unit_escape unit

-- the character of two units, if they are a pair of surrogates
unfoldable pub pair_of : ℕ → ℕ → Option ℕ
pair_of high low = if is_high_surrogate high && is_low_surrogate low then Some (surrogate_pair_char high low) else None
