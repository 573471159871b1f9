-- Shapes of JSON values. Of a member that stands twice in a text the last counts, so an object has each
-- name once.
use Rattle.std.specs.Prelude.{ℕ, ◌&&◌, true, false, Bool, List, bytes_eq, Option, option_and_then}
use Rattle.std.specs.List.{list_any}
use Rattle.serde_json.specs.Data.{Data, object, Members, no_members, member}
use Rattle.serde_json.specs.Find.{as_number, as_u64, as_str}

-- it is one of these names
unfoldable pub is_among : List (List ℕ) → List ℕ → Bool
is_among names name = list_any (λ known. bytes_eq known name) names

-- each member has one of these names
unfoldable pub are_among : List (List ℕ) → Members → Bool
are_among names no_members = true
are_among names (member name value others) = is_among names name && are_among names others

-- it is an object, and has no member but of these names
unfoldable pub has_only : List (List ℕ) → Data → Bool
has_only names (object members) = are_among names members
has_only names _ = false

-- The number of a value, where it is one of 64 bits and without a sign. One that is spelled with a
-- fraction, an exponent or a sign is none, and so is one that is too large.
abbrev pub number_of : Data → Option ℕ
number_of value = option_and_then as_u64 (as_number value)

-- the text of a value, where it is one
abbrev pub text_of : Data → Option (List ℕ)
text_of value = as_str value
