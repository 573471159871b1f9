-- What the words of an argument ask that takes several.
use Rattle.std.specs.Prelude.{ℕ, ◌==◌, not, List, [], ◌∷◌, length, map, ok_or, Option, Some, None, Result, Ok, Vec, String, string_bytes}
use Rattle.std.specs.Str.{is_utf8}
use Rattle.std.specs.Result.{result_ok}
use Rattle.std.specs.Borrow.{Bor}
use Rattle.std.specs.declared.alloc.Global.{Global}
use Rattle.contract_words.specs.Faults.{◌>>=◌, refuse}
use Rattle.names.specs.declared.named_set.NamedSet.{NamedSet}
use Rattle.names.specs.declared.named_goal.NamedGoal.{NamedGoal}
use Rattle.names.specs.NamedSet.{NamedSetOf, named_set_of, named_set_in}
use Rattle.names.specs.NamedGoal.{NamedGoalOf, named_goal_of, named_goal_in}
use Rattle.names.specs.WordFile.{file_path_in, words_in_text}
use Rattle.command_base.specs.Inputs.{Places, file_of}
use Rattle.command_base.specs.Stop.{StopOf, not_text, no_words, bad_word}

-- the words of the file at a path, which has to be UTF-8 and to have a word
unfoldable pub words_of_file : List ℕ → List ℕ → Result (List (List ℕ)) StopOf
words_of_file path bytes = do
  _ ← refuse (not (is_utf8 bytes)) not_text
  _ ← refuse (length (words_in_text bytes) == 0) (no_words path)
  Ok (words_in_text bytes)

-- those of the file that a word may name
abbrev pub words_in_place_of : Places → List ℕ → Option (List ℕ) → Result (List (List ℕ)) StopOf
words_in_place_of places word None = Ok (word ∷ [])
words_in_place_of places word (Some path) = file_of places path >>= λ bytes. words_of_file path bytes

-- a word, or in its place those of the file that it names
unfoldable pub words_at : Places → List ℕ → Result (List (List ℕ)) StopOf
words_at places word = words_in_place_of places word (file_path_in word)

-- the resources that a word asks for
abbrev pub set_asked : List ℕ → Result NamedSetOf StopOf
set_asked word = ok_or (named_set_in word) (bad_word word)

-- the goals that a word asks for
abbrev pub goal_asked : List ℕ → Result NamedGoalOf StopOf
goal_asked word = ok_or (result_ok (named_goal_in word)) (bad_word word)

-- ---- how contracts see them

-- words that are lent
abbrev pub texts_of : Vec (Bor (List ℕ)) Global → List (List ℕ)
texts_of words = map (λ word. word.now) words.items

abbrev pub strings_held : Vec (String Global) Global → List (List ℕ)
strings_held words = map string_bytes words.items

abbrev pub sets_held : Vec NamedSet Global → List NamedSetOf
sets_held sets = map named_set_of sets.items

abbrev pub goals_held : Vec NamedGoal Global → List NamedGoalOf
goals_held goals = map named_goal_of goals.items
