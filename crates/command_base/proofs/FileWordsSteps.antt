-- How the words of an argument are read, with those of files in the place of words that name some.
use Rattle.std.proofs.Common.{◌≡◌, ◌≢◌, ◌==◌, ℕ, ◌+◌, ◌<◌, ◌≤◌, Bool, true, false, List, [], ◌∷◌, map, drop, length, get_or, Option, Some, None, IfSome, Ok, Err, Vec, String, refl, sym, ap, ◌∙◌}
use Rattle.std.specs.Borrow.{Bor}
use Rattle.std.specs.Str.{is_utf8, IsUtf8}
use Rattle.std.specs.declared.alloc.Global.{Global}
use Rattle.std.proofs.lemmas.List.{drop_more, drop_all, length-map}
use Rattle.std.proofs.lemmas.Str.{IsUtf8-from_is_utf8, is_utf8-from_IsUtf8}
use Rattle.contract_words.specs.Sequences.{with_front, joined_each}
use Rattle.contract_words.proofs.SequenceSteps.{ReadsAllBut-next, ReadsAllBut-stops, ReadsAllBut-end, with_front_nil}
use Rattle.command_base.specs.declared.fault.ToolFault.TheVariants.{OutOfMemory}
use Rattle.names.specs.WordFile.{words_in_text}
use Rattle.command_base.specs.declared.stop.Stop.{Stop}
use Rattle.command_base.specs.FileWords.{words_at, words_of_file, strings_held}
use Rattle.command_base.specs.Inputs.{Places}
use Rattle.command_base.specs.Stop.{not_text, no_words, stop_of, tool}

-- ---- the words of a file

abbrev pub word_of : Bor (List ℕ) → List ℕ
word_of word = word.now

is_blank : (bytes : List ℕ) (words : Vec (Bor (List ℕ)) Global) → map word_of words.items ≡ words_in_text bytes → (length (words_in_text bytes) == 0) ≡ (words.len == 0)
is_blank bytes words read = ap (λ n. n == 0) (ap length (sym read) ∙ length-map words.items word_of ∙ sym words.ok.0)

pub words_of_text : (path bytes : List ℕ) (words : Vec (Bor (List ℕ)) Global) → IsUtf8 bytes → map word_of words.items ≡ words_in_text bytes → (words.len == 0) ≡ false
    → words_of_file path bytes ≡ Ok (map word_of words.items)
unfolding words_of_file
words_of_text path bytes words text read some = rw (is_utf8-from_IsUtf8 bytes text, is_blank bytes words read ∙ some, read) refl

pub words_of_blank_text : (path bytes : List ℕ) (words : Vec (Bor (List ℕ)) Global) → IsUtf8 bytes → map word_of words.items ≡ words_in_text bytes → (words.len == 0) ≡ true
    → words_of_file path bytes ≡ Err (no_words path)
unfolding words_of_file
words_of_blank_text path bytes words text read none = rw (is_utf8-from_IsUtf8 bytes text, is_blank bytes words read ∙ none) refl

pub words_of_no_text : (path bytes : List ℕ) → (IsUtf8 bytes → ⊥) → words_of_file path bytes ≡ Err not_text
unfolding words_of_file
words_of_no_text path bytes none = go (is_utf8 bytes) refl
  where
    go : (is : Bool) → is_utf8 bytes ≡ is → words_of_file path bytes ≡ Err not_text
    go true is = absurd (none (IsUtf8-from_is_utf8 bytes is))
    go false is = rw is refl

-- ---- one word after the other

-- where it is known what the places have: the words so far, and those that are left, are all words
abbrev pub WordsLeft : Option Places → Vec (String Global) Global → ℕ → List (Bor (List ℕ)) → Type 0
WordsLeft known asked place words =
    IfSome known (λ places. with_front (strings_held asked) (joined_each (words_at places) (map word_of (drop place words))) ≡ joined_each (words_at places) (map word_of words))

pub WordsLeft-none : (known : Option Places) (asked : Vec (String Global) Global) (words : List (Bor (List ℕ))) → asked.items ≡ [] → WordsLeft known asked 0 words
WordsLeft-none None asked words none = tt
WordsLeft-none (Some places) asked words none = rw none (with_front_nil (joined_each (words_at places) (map word_of words)))

split : (words : List (Bor (List ℕ))) (place : ℕ) (d : Bor (List ℕ)) → place < length words
    → map word_of (drop place words) ≡ (get_or words place d).now ∷ map word_of (drop (place + 1) words)
split words place d on = ap (map word_of) (drop_more words place d on)

pub WordsLeft-next : (known : Option Places) (asked more : Vec (String Global) Global) (place : ℕ) (words : List (Bor (List ℕ))) (d : Bor (List ℕ))
    → WordsLeft known asked place words → place < length words
    → IfSome known (λ places. with_front (strings_held asked) (words_at places (get_or words place d).now) ≡ Ok (strings_held more))
    → WordsLeft known more (place + 1) words
WordsLeft-next None asked more place words d before on read = tt
WordsLeft-next (Some places) asked more place words d before on read =
    (ReadsAllBut-next (words_at places) (strings_held asked) (strings_held more) (map word_of (drop place words)) (map word_of (drop (place + 1) words))
    (get_or words place d).now _ (record { others = before }) (split words place d on) read).others

pub WordsLeft-stops : (known : Option Places) (asked : Vec (String Global) Global) (place : ℕ) (words : List (Bor (List ℕ))) (d : Bor (List ℕ)) (stop : Stop)
    → WordsLeft known asked place words → place < length words
    → IfSome known (λ places. stop_of stop ≢ tool OutOfMemory → with_front (strings_held asked) (words_at places (get_or words place d).now) ≡ Err (stop_of stop))
    → IfSome known (λ places. stop_of stop ≢ tool OutOfMemory → joined_each (words_at places) (map word_of words) ≡ Err (stop_of stop))
WordsLeft-stops None asked place words d stop before on read = tt
WordsLeft-stops (Some places) asked place words d stop before on read = λ told.
    ReadsAllBut-stops (words_at places) (strings_held asked) (map word_of (drop place words)) (map word_of (drop (place + 1) words))
    (get_or words place d).now (stop_of stop) _ (record { others = before }) (split words place d on) (read told)

pub WordsLeft-end : (known : Option Places) (asked : Vec (String Global) Global) (place : ℕ) (words : List (Bor (List ℕ)))
    → WordsLeft known asked place words → length words ≤ place
    → IfSome known (λ places. joined_each (words_at places) (map word_of words) ≡ Ok (strings_held asked))
WordsLeft-end None asked place words before past = tt
WordsLeft-end (Some places) asked place words before past =
    ReadsAllBut-end (words_at places) (strings_held asked) (map word_of (drop place words)) _ (record { others = before }) (ap (map word_of) (drop_all place words past))
