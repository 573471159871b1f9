use Rattle.std.proofs.Common.{drop}
use Rattle.contract_words.proofs.TextSteps.{PutsAllBut}
use Rattle.resource_tool.specs.TreeText.{locale_item}
use Rattle.resource_tool.proofs.show.test_text.write_locales.Given as goal

abbrev pub invariant-loop-locale : goal.invariant-loop-locale
invariant-loop-locale g l = PutsAllBut locale_item (g.W.Write.contents l.fn.out) (g.W.Write.contents l.out) l.locales (drop l.locale-index l.locales)
