use Rattle.std.proofs.Common.{arith}
use Rattle.std.proofs.lemmas.List.{drop_more}
use Rattle.contract_words.proofs.TextSteps.{PutsAllBut-next}
use Rattle.resource_tool.proofs.show.test_text.write_numbers.Goals as goal

pub loop-number-preserved : goal.loop-number-preserved
loop-number-preserved g c = PutsAllBut-next _ _ _ _ _ _ _ _ c.loop-number.invariant (drop_more c.args.numbers.now c.loop-number.number-index _ (omega arith)) c.in_ok-write_number.ensures
