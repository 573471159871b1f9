-- The value of a text, by what stands at its tokens.
use Rattle.std.proofs.Common.{◌≡◌, ◌≢◌, ℕ, List, [], ◌∷◌, Option, Some, None, option_and_then, IsUtf8, ok_or, Result, Err, refl, ap, ◌∙◌}
use Rattle.contract_words.specs.Faults.{◌>>=◌}
use Rattle.json.specs.Token.{Token}
use Rattle.json.specs.Lex.{tokens}
use Rattle.json.specs.Json as json
use Rattle.json.specs.Json.{parse_map, if_last, value}
use Rattle.serde_json.specs.Data.{Data}
use Rattle.serde_json.specs.Read.{of_json, converted}
use Rattle.json_tokens.specs.json_input.Json.{value_of}
use Rattle.json_input.proofs.ValueLemmas.{value_of-read, value_of-refused}
use Rattle.json_tokens.specs.Standing.{value_at}
use Rattle.json_tokens.proofs.Standing.{converted_some, refused, read_some}

abbrev whole : Option (json.Json × List Token) → Option Data
whole o = option_and_then of_json (option_and_then (λ p. if_last p.0 p.1) o)

whole_read : (o : Option (json.Json × List Token)) (d : Data) → converted of_json o ≡ Some (d, []) → whole o ≡ Some d
whole_read o d e = let j = converted_some of_json o d [] e in ap whole j.1 ∙ j.2

whole_and_more : (o : Option (json.Json × List Token)) (d : Data) (t : Token) (r : List Token) → converted of_json o ≡ Some (d, t ∷ r) → whole o ≡ None
whole_and_more o d t r e = ap whole (converted_some of_json o d (t ∷ r) e).1

whole_refused : (o : Option (json.Json × List Token)) → converted of_json o ≡ None → whole o ≡ None
whole_refused None e = refl
whole_refused (Some (j, [])) e = refused [] (of_json j) e
whole_refused (Some (j, t ∷ r)) e = refl

pub text-none : {X E : Type 0} (f : Data → Result X E) (no_json : E) (bytes : List ℕ) → value_of bytes ≡ None → (ok_or (value_of bytes) no_json >>= f) ≡ Err no_json
text-none {X} {E} f no_json bytes e = ap (λ (value : Option Data). ok_or value no_json >>= f) e

-- nothing follows the value, which means this
pub text-means : {X E : Type 0} (f : Data → Result X E) (no_json : E) (bytes : List ℕ) (y : Result X E) → IsUtf8 bytes → parse_map f (value_at 127 (tokens bytes)) ≡ Some (y, [])
    → (ok_or (value_of bytes) no_json >>= f) ≡ y
unfolding value_at
text-means f no_json bytes y text e =
    let d = read_some f (value_at 127 (tokens bytes)) y [] e in
    ap (λ (value : Option Data). ok_or value no_json >>= f) (value_of-read bytes d.0 text (whole_read (value 127 (tokens bytes)) d.0 d.1)) ∙ d.2

-- something follows it
pub text-followed : {X E : Type 0} (f : Data → Result X E) (no_json : E) (bytes : List ℕ) (y : Result X E) (r : List Token) → parse_map f (value_at 127 (tokens bytes)) ≡ Some (y, r) → r ≢ []
    → (ok_or (value_of bytes) no_json >>= f) ≡ Err no_json
unfolding value_at
text-followed f no_json bytes y [] e more = absurd (more refl)
text-followed f no_json bytes y (t ∷ r) e more =
    let d = read_some f (value_at 127 (tokens bytes)) y (t ∷ r) e in
    text-none f no_json bytes (value_of-refused bytes (λ text. whole_and_more (value 127 (tokens bytes)) d.0 t r d.1))

-- no value stands there
pub text-malformed : {X E : Type 0} (f : Data → Result X E) (no_json : E) (bytes : List ℕ) → value_at 127 (tokens bytes) ≡ None → (ok_or (value_of bytes) no_json >>= f) ≡ Err no_json
unfolding value_at
text-malformed f no_json bytes e = text-none f no_json bytes (value_of-refused bytes (λ text. whole_refused (value 127 (tokens bytes)) e))

pub ruleset text_steps = (text-none, text-means, text-followed, text-malformed)
