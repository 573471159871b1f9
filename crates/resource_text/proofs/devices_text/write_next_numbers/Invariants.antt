use Rattle.std.proofs.Common.{drop}
use Rattle.std.specs.Fmt.{decimal}
use Rattle.contract_words.proofs.TextSteps.{PutsAllBut}
use Rattle.resource_text.specs.DevicesText.{next_value}
use Rattle.resource_text.proofs.devices_text.write_next_numbers.Given as goal

abbrev pub invariant-loop-number : goal.invariant-loop-number
invariant-loop-number g l = PutsAllBut (next_value decimal) (g.W.Write.contents l.fn.out) (g.W.Write.contents l.out) l.numbers (drop l.number-index l.numbers)
