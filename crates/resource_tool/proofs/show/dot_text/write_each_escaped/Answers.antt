use Rattle.std.proofs.Common.{arith}
use Rattle.std.proofs.lemmas.List.{drop_more}
use Rattle.contract_words.proofs.TextSteps.{PutsAllBut-next}
use Rattle.resource_tool.proofs.show.dot_text.write_each_escaped.Goals as goal

pub loop-byte-preserved : goal.loop-byte-preserved
loop-byte-preserved g c = PutsAllBut-next _ _ _ _ _ _ _ _ c.loop-byte.invariant (drop_more c.args.text.now c.loop-byte.byte-index _ (omega arith)) c.in_ok-write_escaped.ensures
