use Rattle.std.proofs.Common.{map}
use Rattle.json_input.proofs.EachSteps.{EachAllBut}
use Rattle.resource_tool.specs.command_base.FileWords.{texts_of}
use Rattle.restool.specs.AskedWords.{asked_word}
use Rattle.restool.proofs.WordSteps.{word_of}
use Rattle.restool.proofs.asked_words.asked_words.Given as goal

-- those of the words so far
abbrev pub invariant-loop-word : goal.invariant-loop-word
invariant-loop-word l = EachAllBut (asked_word l.asks) (texts_of l.read) l.word-index (map word_of l.words)
