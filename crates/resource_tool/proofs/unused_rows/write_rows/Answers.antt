use Rattle.std.proofs.Common.{List, arith, sym, ap, ◌∙◌, fold}
use Rattle.contract_words.proofs.TextSteps.{PutsAllBut-next, PutsAllBut-done}
use Rattle.answer_text.specs.type_chunks.Row.{RowOf, row_of}
use Rattle.resource_tool.specs.UnusedOutput.{with_row}
use Rattle.resource_tool.proofs.UsedRows.{counted-next, left_used, used-end, used-next, within-more}
use Rattle.resource_tool.proofs.unused_rows.write_rows.Goals as goal

pub loop-row_use-preserved : goal.loop-row_use-preserved
loop-row_use-preserved g c = record {
  can = tt;
  ends = tt;
  texts = PutsAllBut-next _ _ _ _ _ _ _ _ c.loop-row_use.invariant.texts
      (used-next c.loop-row_use.rows c.next.new.self c.args.uses.now c.loop-row_use.row_use-index (row_of c.in-Some.row) _ c.in-Some.ensures.steps c.loop-row_use-test.true) c.in_ok-write_use.ensures;
  counted = counted-next c.loop-row_use.totals _ _ c.loop-row_use.rows c.next.new.self c.args.uses.now c.loop-row_use.row_use-index (row_of c.in-Some.row) _
      c.loop-row_use.invariant.counted c.in-Some.ensures.steps c.loop-row_use-test.true c.add.ensures.counted;
  within = within-more _ _ _ (omega arith) (c.add.ensures.within _ c.loop-row_use.invariant.within);
}

pub returns-in_default : goal.returns-in_default
returns-in_default g c =
    let before = c.loop-row_use.invariant in
    let none = ap (λ (rows : List RowOf). left_used rows c.args.uses.now c.loop-row_use.row_use-index) c.in_default.ensures.steps.0 in (
      PutsAllBut-done _ _ _ _ _ before.texts none,
      ap (fold with_row c.loop-row_use.totals) (sym none) ∙ before.counted,
      within-more _ _ _ (omega arith) before.within,
    )

pub returns : goal.returns
returns g c =
    let before = c.loop-row_use.invariant in
    let none = used-end c.loop-row_use.rows c.args.uses.now c.loop-row_use.row_use-index (omega (arith, c.loop-row_use-test.false)) in (
      PutsAllBut-done _ _ _ _ _ before.texts none,
      ap (fold with_row c.loop-row_use.totals) (sym none) ∙ before.counted,
      within-more _ _ _ (omega arith) before.within,
    )
