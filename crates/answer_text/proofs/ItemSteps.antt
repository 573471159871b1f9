-- How a loop over a slice writes the text of one item after the other.
use Rattle.std.proofs.Common.{ℕ, ◌+◌, ◌<◌, List, Option, length, drop, get_or}
use Rattle.std.proofs.lemmas.List.{drop_more}
use Rattle.std.specs.Io.KnownBytes.{Appends}
use Rattle.contract_words.proofs.TextSteps.{PutsAllBut, PutsAllBut-none, PutsAllBut-next, PutsAllBut-end}

pub item-next : {X : Type 0} (text : X → List ℕ) (old mid new : Option (List ℕ)) (xs : List X) (place : ℕ) (d : X)
    → PutsAllBut text old mid xs (drop place xs) → place < length xs → Appends mid new (text (get_or xs place d))
    → PutsAllBut text old new xs (drop (place + 1) xs)
item-next text old mid new xs place d before on put =
    PutsAllBut-next text old mid new xs (drop place xs) (drop (place + 1) xs) (get_or xs place d) before (drop_more xs place d on) put

pub ruleset item_steps = (PutsAllBut-none, PutsAllBut-end)
