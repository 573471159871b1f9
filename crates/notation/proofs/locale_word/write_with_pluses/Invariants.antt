use Rattle.std.proofs.Common.{drop}
use Rattle.contract_words.proofs.TextSteps.{PutsAllBut}
use Rattle.notation.specs.LocaleWord.{with_plus}
use Rattle.notation.proofs.locale_word.write_with_pluses.Given as goal

abbrev pub invariant-loop-byte : goal.invariant-loop-byte
invariant-loop-byte g l = PutsAllBut with_plus (g.W.Write.contents l.fn.out) (g.W.Write.contents l.out) l.text (drop l.byte-index l.text)
