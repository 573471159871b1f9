use Rattle.contract_words.proofs.TextSteps.{PutsAllBut-end}
use Rattle.std.proofs.lemmas.List.{drop_all}
use Rattle.resource_tool.specs.QueryOutput.{query_text}
use Rattle.std.proofs.Common.{◌≡◌, arith}
use Rattle.command_base.proofs.answer_text_proofs.ItemSteps.{item-next}
use Rattle.resource_tool.proofs.QuerySteps.{status-next, status_after, StatusAllBut-end}
use Rattle.resource_tool.proofs.query.write_ends.Goals as goal
use Rattle.resource_tool.proofs.query.write_ends.Goals.{then-is_unresolved, else-is_unresolved}

pub loop-id-preserved : goal.loop-id-preserved
loop-id-preserved g c =
    let after : c.if-is_unresolved.status ≡ status_after c.is_unresolved.result c.loop-id.status =
    elim c.if-is_unresolved.branch [
      | then-is_unresolved w ↦ grind arith
      | else-is_unresolved w ↦ grind arith
    ] in
    record {
      texts = item-next _ _ _ _ _ _ _ c.loop-id.invariant.texts (omega arith) c.in_ok-end.ensures.text;
      status = status-next _ _ _ _ _ _ _ _ _ c.loop-id.invariant.status (omega arith) c.in_ok-end.ensures.end c.is_unresolved.ensures after;
    }

pub returns-clause-status : goal.returns-clause-status
returns-clause-status g c = StatusAllBut-end _ _ _ _ _ c.loop-id.invariant.status (omega arith)

pub returns-clause-text : goal.returns-clause-text
unfolding query_text
returns-clause-text g c =
    let aside = rw (c.rows_set_aside.ensures, c.of-rule.ensures, c.locale.ensures.value, c.stack.ensures) at c.in_ok-set_aside_line.ensures in
    PutsAllBut-end _ _ _ _ _ _ _ c.loop-id.invariant.texts (drop_all c.loop-id.id-index c.args.ids.now (omega arith)) aside
