-- The members of an object that are looked for.
use Rattle.std.specs.Prelude.{ℕ, List, [], ◌∷◌, map, Bool, bytes_eq, Option, Some, None, option_map, if◌then◌else◌}
use Rattle.serde_json.specs.Data.{Data}
use Rattle.serde_json.specs.Find.{get}
use Rattle.json_tokens.specs.json_input.Shape.{has_only}
use Rattle.json_tokens.specs.Kind.{KindOf, kind_of, kind_seen}
use Rattle.json_tokens.specs.ShortList.{HasRoomIf, ListOf, short_list, short_list_seen}
use Rattle.json_tokens.specs.declared.kind.Kind.{Kind}
use Rattle.json_tokens.specs.declared.fields_and_list.Fields.{Fields}
use Rattle.json_tokens.specs.declared.fields_and_list.Fields.TheVariants as found

-- the kind of the member of this name
abbrev pub field : Data → List ℕ → Option KindOf
field value name = option_map kind_of (get name value)

-- of each of these names, where the value is an object that has no member but of these names
abbrev pub fields : List (List ℕ) → Data → Option (List (Option KindOf))
fields names value = if has_only names value then Some (map (field value) names) else None

-- slots for members of these names, where this one is of this kind
unfoldable pub with_field : {K : Type 0} → List (List ℕ) → List ℕ → K → List (Option K) → List (Option K)
with_field [] name kind slots = slots
with_field (known ∷ names) name kind [] = []
with_field (known ∷ names) name kind (slot ∷ slots) = (if bytes_eq known name then Some kind else slot) ∷ with_field names name kind slots

abbrev pub slots_seen : List (Option Kind) → List (Option KindOf)
slots_seen slots = map (option_map kind_seen) slots

-- what was found
abbrev pub fields_seen : List (Option Kind) → Bool → Option (List (Option KindOf))
fields_seen slots only = if only then Some (slots_seen slots) else None

-- The same, and the items of a member of one more name that is a short list. It has to have no member but of all
-- these names.
pub record FieldsOf : Type 0 where
  pub kinds : List (Option KindOf)
  pub list : Option ListOf

abbrev pub fields_and_list : List (List ℕ) → List ℕ → ℕ → Data → Option FieldsOf
fields_and_list names list_name most value =
    if has_only (list_name ∷ names) value then Some (record { kinds = map (field value) names; list = option_map (short_list most) (get list_name value) }) else None

-- what was found
abbrev pub fields_and_list_seen : List (Option Kind) → List Kind → Fields → Option FieldsOf
fields_and_list_seen slots kinds (found.Only list) = Some (record { kinds = slots_seen slots; list = option_map (short_list_seen kinds) list })
fields_and_list_seen slots kinds found.Other = None

-- no more items in the list than there is room for
abbrev pub HaveRoom : ℕ → Fields → Type 0
HaveRoom room (found.Only list) = HasRoomIf room list
HaveRoom room found.Other = Unit {0}
