-- What the kind of a value tells of it.
use Rattle.std.proofs.Common.{◌≡◌, List, [], ◌∷◌, map, Option, Some, None, option_map, option_and_then, Result, refl, sym, ap₂}
use Rattle.contract_words.specs.Faults.{◌>>=◌}
use Rattle.contract_words.specs.Sequences.{with_front}
use Rattle.serde_json.specs.Data.{unsigned, negative, float, Data, null, boolean, number, string, array, object}
use Rattle.json_tokens.specs.json_input.Each.{each}
use Rattle.json_tokens.specs.json_input.Shape.{number_of, text_of}
use Rattle.json_tokens.specs.Kind.{KindOf, kind_of, number_in, text_in}

pub number_in-kind : (value : Data) → number_in (kind_of value) ≡ number_of value
number_in-kind null = refl
number_in-kind (boolean b) = refl
number_in-kind (number (unsigned n)) = refl
number_in-kind (number (negative z)) = refl
number_in-kind (number (float x)) = refl
number_in-kind (string s) = refl
number_in-kind (array _) = refl
number_in-kind (object _) = refl

pub text_in-kind : (value : Data) → text_in (kind_of value) ≡ text_of value
text_in-kind null = refl
text_in-kind (boolean b) = refl
text_in-kind (number (unsigned n)) = refl
text_in-kind (number (negative z)) = refl
text_in-kind (number (float x)) = refl
text_in-kind (string s) = refl
text_in-kind (array _) = refl
text_in-kind (object _) = refl

-- of a member
pub text-member : (member : Option Data) → option_and_then text_of member ≡ option_and_then text_in (option_map kind_of member)
text-member None = refl
text-member (Some value) = sym (text_in-kind value)

pub number-member : (member : Option Data) → option_and_then number_of member ≡ option_and_then number_in (option_map kind_of member)
number-member None = refl
number-member (Some value) = sym (number_in-kind value)

-- of each item
pub each-kinds : {X E : Type 0} (f : Data → Result X E) (g : KindOf → Result X E) → ((value : Data) → f value ≡ g (kind_of value)) → (items : List Data) → each f items ≡ each g (map kind_of items)
unfolding each
each-kinds f g same [] = refl
each-kinds {X} {E} f g same (value ∷ items) = ap₂ (λ (r : Result X E) (rest : Result (List X) E). r >>= λ x. with_front (x ∷ []) rest) (same value) (each-kinds f g same items)
