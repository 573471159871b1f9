use Rattle.std.proofs.Common.{drop}
use Rattle.contract_words.proofs.TextSteps.{PutsAllBut}
use Rattle.resource_tool.specs.TreeText.{number_item}
use Rattle.resource_tool.proofs.show.test_text.write_numbers.Given as goal

abbrev pub invariant-loop-number : goal.invariant-loop-number
invariant-loop-number g l = PutsAllBut number_item (g.W.Write.contents l.fn.out) (g.W.Write.contents l.out) l.numbers (drop l.number-index l.numbers)
