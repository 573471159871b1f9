use Rattle.std.proofs.Common.{map, take}
use Rattle.names.specs.AskedWords.{PutsFor}
use Rattle.names.specs.NamedSet.{named_set_of}
use Rattle.names.proofs.asked_words.AskedWords.put_each.Given as goal

abbrev pub invariant-loop-word : goal.invariant-loop-word
invariant-loop-word l = PutsFor (map named_set_of (take l.word-index l.words)) l.id l.fn.self l.self l.asked
