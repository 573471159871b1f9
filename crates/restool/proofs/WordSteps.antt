-- How words are read, one after the other, and what their first one asks for.
use Rattle.std.proofs.Common.{ℕ, ◌<◌, List, map, length, get_or}
use Rattle.std.specs.Prelude.{Err, Result}
use Rattle.std.specs.Borrow.{Bor}
use Rattle.json_input.specs.Each.{each}
use Rattle.json_input.proofs.EachSteps.{EachAllBut, EachAllBut-stops_item}
use Rattle.restool.specs.declared.argument_fault.ArgumentFault.{ArgumentFault}
use Rattle.restool.specs.declared.argument_fault.ArgumentFault.TheVariants.{BadRule, BadId, OutOfMemory}
use Rattle.restool.specs.AskedWords.{ReadsWord, ReadsWords}

-- a word that is lent
abbrev pub word_of : Bor (List ℕ) → List ℕ
word_of word = word.now

-- a word that asks for nothing, or that is not read for want of memory, ends the loop
pub words_stop : (f : List ℕ → Result (List ℕ) (List ℕ)) (so_far : List (List ℕ)) (place : ℕ) (words : List (Bor (List ℕ))) (d : Bor (List ℕ)) (fault : ArgumentFault)
    → EachAllBut f so_far place (map word_of words) → place < length words
    → ReadsWord (Err fault) (f (get_or words place d).now) → ReadsWords (Err fault) (each f (map word_of words))
words_stop f so_far place words d (BadRule word) before on told = absurd told
words_stop f so_far place words d (BadId word) before on told = EachAllBut-stops_item f word_of so_far place words d word.now before on told
words_stop f so_far place words d OutOfMemory before on told = tt
