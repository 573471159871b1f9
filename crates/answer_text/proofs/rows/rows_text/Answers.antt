use Rattle.std.proofs.Common.{◌≡◌, ℕ, length, sym, ap, subst, arith}
use Rattle.std.proofs.lemmas.Result.{on_ok_weaker}
use Rattle.std.specs.Io.KnownBytes.{Appends}
use Rattle.contract_words.proofs.TextSteps.{PutsAllBut-next, PutsAllBut-end}
use Rattle.bags_themes.specs.overlay_map.Table.{rows_of}
use Rattle.bags_themes.specs.type_chunks.Row.{set_aside_count}
use Rattle.answer_text.specs.RowsText.{rows_text, totals_text}
use Rattle.answer_text.proofs.RowCounts.{counted-one, counted-none}
use Rattle.answer_text.proofs.rows.rows_text.Goals as goal

pub returns : goal.returns
unfolding rows_text
returns g c =
    let contents = g.W.Write.contents in
    let rows = rows_of c.args.table.now in
    let l = c.loop-row in
    let no_row : length l.row-iterator ≡ 0 = ap length c.in-None.ensures.steps.0 in
    let none_aside : set_aside_count l.row-iterator ≡ 0 = ap set_aside_count c.in-None.ensures.steps.0 in
    let count : l.count ≡ length rows = omega arith in
    let aside : l.set_aside ≡ set_aside_count rows = omega arith in
    on_ok_weaker c.write_totals.result
    (λ put. PutsAllBut-end _ _ _ _ _ _ _ l.invariant.texts c.in-None.ensures.steps.0
    (subst (λ (n : ℕ). Appends (contents l.out) (contents c.write_totals.new.out) (totals_text n (set_aside_count rows))) count
    (subst (λ (n : ℕ). Appends (contents l.out) (contents c.write_totals.new.out) (totals_text l.count n)) aside put)))
    c.write_totals.ensures

pub loop-row-preserved-then-set_aside : goal.loop-row-preserved-then-set_aside
loop-row-preserved-then-set_aside g c = record {
  can = tt;
  ends = tt;
  texts = PutsAllBut-next _ _ _ _ _ _ _ _ c.loop-row.invariant.texts c.in-Some.ensures.steps c.in_ok-write_row.ensures;
  counted = omega (arith, ap length c.in-Some.ensures.steps);
  of_them = counted-one _ _ _ _ _ _ c.loop-row.invariant.of_them c.in-Some.ensures.steps (sym c.if-set_aside.ensures.value);
  small = omega (arith, ap length c.in-Some.ensures.steps);
  fewer = omega arith;
}

pub loop-row-preserved : goal.loop-row-preserved
loop-row-preserved g c = record {
  can = tt;
  ends = tt;
  texts = PutsAllBut-next _ _ _ _ _ _ _ _ c.loop-row.invariant.texts c.in-Some.ensures.steps c.in_ok-write_row.ensures;
  counted = omega (arith, ap length c.in-Some.ensures.steps);
  of_them = counted-none _ _ _ _ _ _ c.loop-row.invariant.of_them c.in-Some.ensures.steps (sym c.if-set_aside.ensures.value);
  small = omega (arith, ap length c.in-Some.ensures.steps);
  fewer = omega arith;
}
