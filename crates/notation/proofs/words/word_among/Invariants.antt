use Rattle.std.proofs.Common.{◌≡◌, map, drop}
use Rattle.notation.specs.Words.{word_of, find_word}
use Rattle.notation.proofs.words.word_among.Given as goal

-- no word so far is the text
abbrev pub invariant-words : goal.invariant-words
invariant-words l = find_word (map word_of (drop l.word-index l.words)) l.text ≡ find_word (map word_of l.words) l.text
