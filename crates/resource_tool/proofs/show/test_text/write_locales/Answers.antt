use Rattle.std.proofs.Common.{arith}
use Rattle.std.proofs.lemmas.List.{drop_more}
use Rattle.contract_words.proofs.TextSteps.{PutsAllBut-next}
use Rattle.resource_tool.proofs.show.test_text.write_locales.Goals as goal

pub loop-locale-preserved : goal.loop-locale-preserved
loop-locale-preserved g c = PutsAllBut-next _ _ _ _ _ _ _ _ c.loop-locale.invariant (drop_more c.args.locales.now c.loop-locale.locale-index _ (omega arith)) c.in_ok-write_listed.ensures
