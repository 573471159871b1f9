-- How a loop over a slice writes the text of one item after the other, each with its place.
use Rattle.std.proofs.Common.{ℕ, ◌+◌, ◌<◌, List, Option, length, drop, get_or, ap}
use Rattle.std.proofs.lemmas.List.{drop_more}
use Rattle.std.specs.Io.KnownBytes.{Appends}
use Rattle.std.specs.List.{enumerate_from}
use Rattle.contract_words.proofs.TextSteps.{PutsAllBut, PutsAllBut-next}

pub enumerated-next : {X : Type 0} (text : (ℕ × X) → List ℕ) (old mid new : Option (List ℕ)) (xs : List X) (place : ℕ) (d : X)
    → PutsAllBut text old mid (enumerate_from 0 xs) (enumerate_from place (drop place xs)) → place < length xs
    → Appends mid new (text (place, get_or xs place d))
    → PutsAllBut text old new (enumerate_from 0 xs) (enumerate_from (place + 1) (drop (place + 1) xs))
enumerated-next {X} text old mid new xs place d before on put =
    PutsAllBut-next text old mid new (enumerate_from 0 xs) (enumerate_from place (drop place xs)) (enumerate_from (place + 1) (drop (place + 1) xs))
    (place, get_or xs place d) before (ap (λ (left : List X). enumerate_from place left) (drop_more xs place d on)) put
