use Rattle.std.proofs.Common.{arith}
use Rattle.std.proofs.lemmas.List.{drop_all}
use Rattle.contract_words.proofs.TextSteps.{PutsAllBut-done}
use Rattle.answer_text.proofs.ItemSteps.{item-next}
use Rattle.resource_text.proofs.attr_json.write_styles.Goals as goal

pub loop-step-preserved : goal.loop-step-preserved
loop-step-preserved g c = item-next _ _ _ _ _ _ _ c.loop-step.invariant (omega arith) c.in_ok-write_style.ensures

pub returns : goal.returns
returns g c = PutsAllBut-done _ _ _ _ _ c.loop-step.invariant (drop_all c.loop-step.step-index c.args.steps.now (omega arith))
