-- A text as tokens.
use Rattle.std.specs.Prelude.{◌≡◌, ◌≢◌, ℕ, List, Result, Ok, Err, None, IsUtf8}
use Rattle.json.specs.Token.{Token}
use Rattle.json.specs.Lex.{tokens}
use Rattle.json_tokens.specs.json_input.Json.{value_of}
use Rattle.json_tokens.specs.json_input.declared.value.JsonFault.{JsonFault}
use Rattle.json_tokens.specs.json_input.declared.value.JsonFault.TheVariants.{OutOfMemory}

-- All tokens of a text are to come; or the bytes are no text.
abbrev pub Opens : List ℕ → Result (List Token) JsonFault → Type 0
Opens bytes (Ok ts) = IsUtf8 bytes × (ts ≡ tokens bytes)
Opens bytes (Err fault) = fault ≢ OutOfMemory → value_of bytes ≡ None
