use Rattle.std.proofs.Common.{arith}
use Rattle.std.proofs.lemmas.List.{drop_all}
use Rattle.std.proofs.lemmas.Result.{on_ok_weaker}
use Rattle.contract_words.proofs.TextSteps.{PutsAllBut-end}
use Rattle.answer_text.proofs.ItemSteps.{item-next}
use Rattle.resource_text.specs.EndJson.{ends_json}
use Rattle.resource_text.proofs.end_json.write_ends.Goals as goal

pub loop-id-preserved : goal.loop-id-preserved
loop-id-preserved g c = item-next _ _ _ _ _ _ _ c.loop-id.invariant (omega arith) c.in_ok-write_end_line.ensures

pub returns : goal.returns
unfolding ends_json
returns g c =
    let aside = rw (c.rows_set_aside.ensures, c.of-rule.ensures, c.locale.ensures.value, c.stack.ensures) at c.write_set_aside_json.ensures in
    on_ok_weaker c.write_set_aside_json.result
    (λ last. PutsAllBut-end _ _ _ _ _ _ _ c.loop-id.invariant (drop_all c.loop-id.id-index c.args.ids.now (omega arith)) last) aside
