-- Lists that are read item by item, where the meaning of an item depends on what was read before it.
use Rattle.std.specs.Prelude.{List, [], ◌∷◌, ◌++◌, Result, Ok}
use Rattle.contract_words.specs.Faults.{◌>>=◌}

-- after what was read before, what f reads of each item; or the first fault
unfoldable pub read_on : {A X E : Type 0} → (List X → A → Result X E) → List X → List A → Result (List X) E
read_on f before [] = Ok before
read_on f before (item ∷ items) = do
  x ← f before item
  read_on f (before ++ x ∷ []) items
