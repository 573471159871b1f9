-- What is read of several things, one after the other: of the items of a list, of each coordinate in turn.
use Rattle.std.specs.Prelude.{List, [], ◌∷◌, Option, Result, Ok}
use Rattle.std.specs.Option.{option_map}
use Rattle.contract_words.specs.Faults.{◌>>=◌}
use Rattle.contract_words.specs.Sequences.{with_front}
use Rattle.serde_json.specs.Data.{Data, Items, no_items, item}
use Rattle.serde_json.specs.Find.{as_array}

abbrev pub list_items : Items → List Data
list_items no_items = []
list_items (item value items) = value ∷ list_items items

-- the items of a value, where it is a list
abbrev pub list_of : Data → Option (List Data)
list_of value = option_map list_items (as_array value)

-- what f reads of each, or the first fault
unfoldable pub each : {A X E : Type 0} → (A → Result X E) → List A → Result (List X) E
each f [] = Ok []
each f (a ∷ others) = do
  x ← f a
  with_front (x ∷ []) (each f others)
