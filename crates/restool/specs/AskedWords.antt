-- Words that ask for resources or for goals.
use Rattle.std.specs.Prelude.{ℕ, ◌≡◌, ◌||◌, Bool, List, ok_or, is_some, is_ok, Result, Ok, Err, Vec, if◌then◌else◌}
use Rattle.std.specs.Borrow.{Bor}
use Rattle.std.specs.declared.alloc.Global.{Global}
use Rattle.resource_tool.specs.command_base.FileWords.{texts_of}
use Rattle.resource_tool.specs.command_base.names.declared.named.Named.{Named}
use Rattle.resource_tool.specs.command_base.names.Named.{NamedOf, named_of, named_in}
use Rattle.resource_tool.specs.command_base.names.NamedGoal.{named_goal_in}
use Rattle.resource_tool.specs.command_base.names.NamedSet.{named_set_in}
use Rattle.resource_tool.specs.command_base.names.WordFile.{file_path_in}
use Rattle.restool.specs.declared.asked_words.Asks.{Asks}
use Rattle.restool.specs.declared.asked_words.Asks.TheVariants.{Resources, Goals}
use Rattle.restool.specs.declared.argument_fault.ArgumentFault.{ArgumentFault}
use Rattle.restool.specs.declared.argument_fault.ArgumentFault.TheVariants.{BadId, OutOfMemory}

-- where one resource stands: the one that a word asks for, or the word, if it asks for none
abbrev pub named_word : List ℕ → Result NamedOf (List ℕ)
named_word word = ok_or (named_in word) word

-- whether a word asks for some of what is to be asked for
abbrev pub asks_for : Asks → List ℕ → Bool
asks_for Resources word = is_some (named_set_in word)
asks_for Goals word = is_ok (named_goal_in word)

-- where several may stand: a word that asks for some, or that names a file of such words; or the word, if it does neither
abbrev pub asked_word : Asks → List ℕ → Result (List ℕ) (List ℕ)
asked_word asks word = if is_some (file_path_in word) || asks_for asks word then Ok word else Err word

-- ---- how they are read

-- a call gave the resource that is meant, or named the word that asks for none
abbrev pub ReadsNamed : Result Named ArgumentFault → Result NamedOf (List ℕ) → Type 0
ReadsNamed (Ok named) meant = meant ≡ Ok (named_of named)
ReadsNamed (Err (BadId word)) meant = meant ≡ Err word.now
ReadsNamed (Err fault) meant = ⊥

-- a call gave the word that is meant, or named it; or memory ran out
abbrev pub ReadsWord : Result (Bor (List ℕ)) ArgumentFault → Result (List ℕ) (List ℕ) → Type 0
ReadsWord (Ok word) meant = meant ≡ Ok word.now
ReadsWord (Err (BadId word)) meant = meant ≡ Err word.now
ReadsWord (Err OutOfMemory) meant = Unit {0}
ReadsWord (Err fault) meant = ⊥

-- the same of several, of which the first that asks for none is named
abbrev pub ReadsWords : Result (Vec (Bor (List ℕ)) Global) ArgumentFault → Result (List (List ℕ)) (List ℕ) → Type 0
ReadsWords (Ok words) meant = meant ≡ Ok (texts_of words)
ReadsWords (Err (BadId word)) meant = meant ≡ Err word.now
ReadsWords (Err OutOfMemory) meant = Unit {0}
ReadsWords (Err fault) meant = ⊥
