-- The strings of a pool (AOSP: ResStringPool::stringAt, ResStringPool::string8At).
use Rattle.std.specs.Prelude.{ℕ, ◌*◌, Bool, true, false, not, List, drop, Result, Ok, Err, nat_lt, if◌then◌else◌}
use Rattle.std.specs.Str.{bytes_eq}
use Rattle.contract_words.specs.Faults.{◌>>=◌, refuse}
use Rattle.chunk_walk.specs.Number.{number}
use Rattle.string_bytes.specs.declared.fault.StringFault.{StringFault}
use Rattle.string_bytes.specs.declared.fault.StringFault.TheVariants.{NoSuch}
use Rattle.string_bytes.specs.Bytes.{utf8_bytes_in, utf16_bytes_in}
use Rattle.string_pool.specs.declared.text.Text.{Text}
use Rattle.string_pool.specs.declared.text.Text.TheVariants.{Utf8, Utf16}
use Rattle.string_pool.specs.Layout.{offset_size}
use Rattle.string_pool.specs.Pool.{PoolOf}
use Rattle.string_pool.specs.Units.{units_in, units_of}

-- The bytes of a string, by their content, not their address, and whether they are UTF-8 or UTF-16.
pub record TextOf : Type 0 where
  pub utf8 : Bool
  pub bytes : List ℕ

abbrev pub text_of : Text → TextOf
text_of (Utf8 bytes) = record { utf8 = true; bytes = bytes.now }
text_of (Utf16 bytes) = record { utf8 = false; bytes = bytes.now }

-- how contracts see what a call returned: by its content, not its address
abbrev pub seen_text : Result Text StringFault → Result TextOf StringFault
seen_text (Ok text) = Ok (text_of text)
seen_text (Err fault) = Err fault

-- whether a string is a text that is given as UTF-8: its bytes are those of the text, or its units are
unfoldable pub is_text_of : TextOf → List ℕ → Bool
is_text_of string text = if string.utf8 then bytes_eq string.bytes text else bytes_eq (units_in string.bytes) (units_of text)

-- a string of UTF-8, at the front of what is left
abbrev pub utf8_in : List ℕ → Result TextOf StringFault
utf8_in left = do
  bytes ← utf8_bytes_in left
  Ok (record { utf8 = true; bytes = bytes })

-- a string of UTF-16
abbrev pub utf16_in : List ℕ → Result TextOf StringFault
utf16_in left = do
  bytes ← utf16_bytes_in left
  Ok (record { utf8 = false; bytes = bytes })

-- the string of an index, whose offset counts from where the strings start
unfoldable pub text_in : PoolOf → ℕ → Result TextOf StringFault
text_in pool index = do
  _ ← refuse (not (nat_lt index pool.string_count)) NoSuch
  let left = drop (number 4 pool.offsets (offset_size * index)) pool.strings
  if pool.utf8 then utf8_in left else utf16_in left
