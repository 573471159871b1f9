use Rattle.std.proofs.Common.{drop}
use Rattle.contract_words.proofs.TextSteps.{PutsAllBut}
use Rattle.resource_text.specs.DevicesText.{narrower_text}
use Rattle.resource_text.proofs.devices_text.write_narrower.Given as goal

abbrev pub invariant-loop-coord : goal.invariant-loop-coord
invariant-loop-coord g l = PutsAllBut (narrower_text l.whole l.part) (g.W.Write.contents l.fn.out) (g.W.Write.contents l.out) l.coords (drop l.coord-index l.coords)
