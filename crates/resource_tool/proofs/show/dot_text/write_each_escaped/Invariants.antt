use Rattle.std.proofs.Common.{drop}
use Rattle.contract_words.proofs.TextSteps.{PutsAllBut}
use Rattle.resource_tool.specs.DotText.{escaped}
use Rattle.resource_tool.proofs.show.dot_text.write_each_escaped.Given as goal

abbrev pub invariant-loop-byte : goal.invariant-loop-byte
invariant-loop-byte g l = PutsAllBut escaped (g.W.Write.contents l.fn.out) (g.W.Write.contents l.out) l.text (drop l.byte-index l.text)
