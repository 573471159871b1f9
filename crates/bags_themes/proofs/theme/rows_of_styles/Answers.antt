use Rattle.std.proofs.Common.{◌++◌, ap, ◌∙◌}
use Rattle.std.proofs.lemmas.Result.{err_from_is_err_and}
use Rattle.bags_themes.proofs.StyleSteps.{RowsAllBut-none, RowsAllBut-next, RowsAllBut-stops, RowsAllBut-end}
use Rattle.bags_themes.proofs.theme.rows_of_styles.Goals as goal

pub loop-style-init : goal.loop-style-init
loop-style-init c = RowsAllBut-none _ _ _ _ c.new-rows.ensures.items

pub returns-in_err-own : goal.returns-in_err-own
returns-in_err-own c =
    let p = err_from_is_err_and c.from_residual.result c.from_residual.ensures.1 in
    rw (p.1, p.2) (λ other. RowsAllBut-stops _ _ _ _ _ _ _ c.loop-style.invariant c.loop-style-test.true (c.in_err-own.ensures other))

pub loop-style-preserved : goal.loop-style-preserved
loop-style-preserved c =
    RowsAllBut-next _ _ _ _ _ _ _ _ c.loop-style.invariant c.loop-style-test.true c.in_ok-own.ensures
    (c.in_ok-extend_from_slice.ensures.items ∙ ap (λ own. c.loop-style.rows.items ++ own) c.as_slice.ensures)

pub returns : goal.returns
returns c = RowsAllBut-end _ _ _ _ _ c.loop-style.invariant c.loop-style-test.false
