-- What a value is, as far as its readers ask.
use Rattle.std.specs.Prelude.{◌≡◌, ℕ, ◌-◌, ◌<◌, Bool, true, false, List, Option, Some, None, Result, Ok, Err}
use Rattle.json.specs.Token.{Token}
use Rattle.json.specs.Json.{parse_map}
use Rattle.serde_json.specs.Data.{Data, null, boolean, number, string, array, object, no_members}
use Rattle.serde_json.specs.Find.{as_u64, as_object}
use Rattle.json_tokens.specs.json_input.Each.{list_of}
use Rattle.json_tokens.specs.Standing.{value_at, items_at, members_at}
use Rattle.json_tokens.specs.declared.kind.Kind.{Kind}
use Rattle.json_tokens.specs.declared.kind.Kind.TheVariants as kind
use Rattle.json_tokens.specs.declared.malformed.Malformed.{Malformed}

pub data KindOf : Type 0 where
  -- a number of 64 bits, without a sign, a fraction and an exponent
  Whole : ℕ → KindOf
  Text : List ℕ → KindOf
  AList : KindOf
  AnObject : KindOf
  Other : KindOf

-- of a number: itself, where it is such a one
abbrev pub number_kind : Option ℕ → KindOf
number_kind (Some n) = Whole n
number_kind None = Other

abbrev pub kind_of : Data → KindOf
kind_of null = Other
kind_of (boolean b) = Other
kind_of (number n) = number_kind (as_u64 n)
kind_of (string s) = Text s
kind_of (array _) = AList
kind_of (object _) = AnObject

-- the number of a value, and its text, where it is one
abbrev pub number_in : KindOf → Option ℕ
number_in (Whole n) = Some n
number_in _ = None

abbrev pub text_in : KindOf → Option (List ℕ)
text_in (Text s) = Some s
text_in _ = None

abbrev pub kind_seen : Kind → KindOf
kind_seen (kind.Number n) = Whole n
kind_seen (kind.Text s) = Text s.now
kind_seen kind.List = AList
kind_seen kind.Object = AnObject
kind_seen kind.Other = Other

-- A value begins here. Of a list and of an object what opens it was taken, and all of another value.
abbrev pub Begins : ℕ → List Token → Result Kind Malformed → List Token → Type 0
Begins depth old (Ok kind.List) new = (0 < depth) × (parse_map list_of (value_at depth old) ≡ parse_map Some (items_at (depth - 1) new))
Begins depth old (Ok kind.Object) new = (0 < depth) × (value_at depth old ≡ parse_map object (members_at (depth - 1) no_members new))
Begins depth old (Ok k) new = parse_map kind_of (value_at depth old) ≡ Some (kind_seen k, new)
Begins depth old (Err _) new = value_at depth old ≡ None

-- The list that stood here was entered; or another value was passed.
abbrev pub EntersList : ℕ → List Token → Result Bool Malformed → List Token → Type 0
EntersList depth old (Ok true) new = (0 < depth) × (parse_map list_of (value_at depth old) ≡ parse_map Some (items_at (depth - 1) new))
EntersList depth old (Ok false) new = parse_map list_of (value_at depth old) ≡ Some (None, new)
EntersList depth old (Err _) new = value_at depth old ≡ None

-- The object that stood here was entered; or another value was passed.
abbrev pub EntersObject : ℕ → List Token → Result Bool Malformed → List Token → Type 0
EntersObject depth old (Ok true) new = (0 < depth) × (value_at depth old ≡ parse_map object (members_at (depth - 1) no_members new))
EntersObject depth old (Ok false) new = parse_map as_object (value_at depth old) ≡ Some (None, new)
EntersObject depth old (Err _) new = value_at depth old ≡ None
