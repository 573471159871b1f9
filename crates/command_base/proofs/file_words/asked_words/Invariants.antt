use Rattle.command_base.proofs.FileWordsSteps.{WordsLeft}
use Rattle.command_base.proofs.file_words.asked_words.Given as goal

-- the words so far, and those that are left, are all words
abbrev pub invariant-loop-word : goal.invariant-loop-word
invariant-loop-word g l = WordsLeft (g.I.Inputs.places l.inputs) l.asked l.word-index l.words
