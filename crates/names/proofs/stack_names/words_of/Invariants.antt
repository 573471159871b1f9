use Rattle.std.proofs.Common.{take}
use Rattle.names.specs.IdWord.{word_among}
use Rattle.names.proofs.IdWordSteps.{HasWordsFor}
use Rattle.names.proofs.stack_names.words_of.Given as goal

abbrev pub invariant-ids : goal.invariant-ids
invariant-ids l = HasWordsFor (word_among l.packages l.stack) (take l.id-index l.ids) l.words
