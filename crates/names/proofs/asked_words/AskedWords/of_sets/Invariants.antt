use Rattle.std.proofs.Common.{map, take}
use Rattle.names.specs.NamedSet.{named_set_of}
use Rattle.names.proofs.AskedWordsSteps.{AreNothing}
use Rattle.names.proofs.asked_words.AskedWords.of_sets.Given as goal

abbrev pub invariant-loop-set : goal.invariant-loop-set
invariant-loop-set l = AreNothing (map named_set_of (take l.set-index l.sets)) (record { words = l.words })
