use Rattle.contract_words.proofs.TextSteps.{PutsAllBut-next, PutsAllBut-done}
use Rattle.answer_text.proofs.cell.write_each_map_row.Goals as goal

pub loop-name-preserved : goal.loop-name-preserved
loop-name-preserved g c = record {
  can = tt;
  ends = tt;
  texts = PutsAllBut-next _ _ _ _ _ _ _ _ c.loop-name.invariant.texts c.in-Some.ensures.steps c.in_ok-write_map_row.ensures;
}

pub returns : goal.returns
returns g c = PutsAllBut-done _ _ _ _ _ c.loop-name.invariant.texts c.in-None.ensures.steps.0
