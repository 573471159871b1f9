use Rattle.std.proofs.Common.{arith}
use Rattle.std.proofs.lemmas.List.{drop_more}
use Rattle.contract_words.proofs.TextSteps.{PutsAllBut-next}
use Rattle.resource_text.proofs.devices.write_qualifiers.Goals as goal

pub loop-coord-preserved : goal.loop-coord-preserved
loop-coord-preserved g c = PutsAllBut-next _ _ _ _ _ _ _ _ c.loop-coord.invariant (drop_more c.args.coords.now c.loop-coord.coord-index _ (omega arith)) c.in_ok-write_qualifier.ensures
