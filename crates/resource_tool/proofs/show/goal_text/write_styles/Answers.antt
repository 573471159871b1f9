use Rattle.std.proofs.Common.{arith}
use Rattle.std.proofs.lemmas.List.{drop_more}
use Rattle.contract_words.proofs.TextSteps.{PutsAllBut-next}
use Rattle.resource_tool.proofs.show.goal_text.write_styles.Goals as goal

pub loop-style-preserved : goal.loop-style-preserved
loop-style-preserved g c = PutsAllBut-next _ _ _ _ _ _ _ _ c.loop-style.invariant (drop_more c.args.styles.now c.loop-style.style-index _ (omega arith)) c.in_ok-write_style.ensures
