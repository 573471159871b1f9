use Rattle.contract_words.proofs.TextSteps.{PutsAllBut-next, PutsAllBut-done}
use Rattle.resource_text.proofs.dump.write_package_rows.Goals as goal

pub loop-row-preserved : goal.loop-row-preserved
loop-row-preserved g c = record {
  can = tt;
  ends = tt;
  texts = PutsAllBut-next _ _ _ _ _ _ _ _ c.loop-row.invariant.texts c.in-Some.ensures.steps c.in_ok-write_row.ensures;
}

pub returns : goal.returns
returns g c = PutsAllBut-done _ _ _ _ _ c.loop-row.invariant.texts c.in-None.ensures.steps.0
