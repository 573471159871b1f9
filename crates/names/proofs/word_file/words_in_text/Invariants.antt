use Rattle.std.proofs.Common.{map}
use Rattle.names.proofs.WordFileSteps.{WordsAllBut, line_of}
use Rattle.names.proofs.word_file.words_in_text.Given as goal

-- the words of the lines so far
abbrev pub invariant-loop-line : goal.invariant-loop-line
invariant-loop-line l = WordsAllBut (map line_of l.words.items) l.line-index (map line_of l.line-items)
