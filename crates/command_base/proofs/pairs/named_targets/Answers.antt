use Rattle.std.proofs.Common.{◌+◌, ◌∷◌, List, drop, map, ap, sym, ◌∙◌}
use Rattle.std.proofs.lemmas.List.{drop_more, drop_all}
use Rattle.command_base.specs.answer_text.type_chunks.type_entries.declared.row.Row.{Row}
use Rattle.command_base.specs.answer_text.type_chunks.Row.{row_of}
use Rattle.command_base.specs.NamedTarget.{named_in}
use Rattle.command_base.proofs.LoopSteps.{JoinsAllBut-next, JoinsAllBut-end}
use Rattle.command_base.proofs.pairs.named_targets.Goals as goal

pub loop-row-preserved : goal.loop-row-preserved
loop-row-preserved c =
    let rows = c.deref-row-items.result.now in
    let place = c.loop-row.row-index in
    let split = drop_more rows place c.row-item.result c.loop-row-test.true ∙ ap (λ (row : Row). row ∷ drop (place + 1) rows) (sym c.row-item.is) in
    JoinsAllBut-next (named_in c.args.target.now c.args.package_id) _ _ _ _ _ _ c.loop-row.invariant (ap (λ (rows : List Row). map row_of rows) split) c.in_ok-push_named.ensures

pub returns : goal.returns
returns c =
    JoinsAllBut-end (named_in c.args.target.now c.args.package_id) _ _ _ c.loop-row.invariant
    (ap (λ (rows : List Row). map row_of rows) (drop_all c.loop-row.row-index c.deref-row-items.result.now c.loop-row-test.false))
