use Rattle.std.proofs.Common.{◌≡◌, map, drop}
use Rattle.notation.specs.Words.{word_of, word_for}
use Rattle.notation.proofs.words.text_among.Given as goal

-- no word so far is the number
abbrev pub invariant-words : goal.invariant-words
invariant-words l = word_for (map word_of (drop l.word-index l.words)) l.coord l.number ≡ word_for (map word_of l.words) l.coord l.number
