-- Lists that are read piece by piece, where a piece may have a fault.
use Rattle.std.specs.Prelude.{ℕ, ◌-◌, List, [], ◌∷◌, ◌++◌, map, Result, Ok, Err}
use Rattle.std.specs.List.{range_with_len}
use Rattle.contract_words.specs.Exact.{GivesOr}

-- a list, and behind it what is read
abbrev pub with_front : {X E : Type 0} → List X → Result (List X) E → Result (List X) E
with_front front (Ok xs) = Ok (front ++ xs)
with_front front (Err fault) = Err fault

-- the lists one after the other, or the first fault
unfoldable pub joined : {X E : Type 0} → List (Result (List X) E) → Result (List X) E
joined [] = Ok []
joined (Err fault ∷ others) = Err fault
joined (Ok xs ∷ others) = with_front xs (joined others)

-- what f reads of each item, one after the other
unfoldable pub joined_each : {A X E : Type 0} → (A → Result (List X) E) → List A → Result (List X) E
joined_each f items = joined (map f items)

-- what f reads of each number from i on and below n
unfoldable pub joined_from : {X E : Type 0} → (ℕ → Result (List X) E) → ℕ → ℕ → Result (List X) E
joined_from f i n = joined_each f (range_with_len i (n - i))

-- each item with the items before it, the nearest first; `before` are those before the first of these
unfoldable pub with_before : {A : Type 0} → List A → List A → List (List A × A)
with_before before [] = []
with_before before (item ∷ items) = (before, item) ∷ with_before (item ∷ before) items

-- A call that pushes to a list, which was old and is new, pushed what is meant. After a fault nothing
-- is said of the new list.
abbrev pub Pushes : {X Y E : Type 0} → E → List Y → List Y → Result X E → Result (List Y) E → Type 0
Pushes out_of_memory old new result meant = GivesOr out_of_memory (λ _. new) result (with_front old meant)
