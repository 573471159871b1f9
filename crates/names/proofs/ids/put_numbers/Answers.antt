use Rattle.std.proofs.Common.{sym, ◌∙◌}
use Rattle.names.proofs.IdSteps.{PutsAllBut-put, PutsAllBut-end}
use Rattle.names.proofs.ids.put_numbers.Goals as goal

pub loop-row-preserved-in_ok-insert : goal.loop-row-preserved-in_ok-insert
loop-row-preserved-in_ok-insert c = record {
  can = tt;
  ends = tt;
  put = PutsAllBut-put _ _ _ _ _ _ _ _ c.loop-row.invariant.put c.in-Some.ensures.steps (sym c.in_ok-of_type.ensures ∙ c.if-of_type.true) c.in_ok-insert.ensures.keys;
}

pub returns : goal.returns
returns c = PutsAllBut-end _ _ _ _ _ c.loop-row.invariant.put c.in-None.ensures.steps.0
