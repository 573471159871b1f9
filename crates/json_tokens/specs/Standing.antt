-- What stands at the front of tokens, as serde_json reads it.
use Rattle.std.specs.Prelude.{ℕ, List, length, Option}
use Rattle.json.specs.Token.{Token}
use Rattle.json.specs.Json as json
use Rattle.serde_json.specs.Data.{Data, Members}
use Rattle.json_tokens.specs.json_input.Each.{list_items}
use Rattle.serde_json.specs.Read.{of_json, of_items, of_members, converted}

-- the value at their front, in which lists and objects nest no deeper than this, and the tokens behind it
unfoldable pub value_at : ℕ → List Token → Option (Data × List Token)
value_at depth ts = converted of_json (json.value depth ts)

-- the items up to the bracket that closes their list, and the tokens behind it
unfoldable pub items_at : ℕ → List Token → Option (List Data × List Token)
items_at depth ts = json.parse_map list_items (converted of_items (json.items (json.value depth) (length ts) ts))

-- members, with those put in up to the brace that closes their object, and the tokens behind it
unfoldable pub members_at : ℕ → Members → List Token → Option (Members × List Token)
members_at depth found ts = converted (λ members. of_members members found) (json.members (json.value depth) (length ts) ts)
