use Rattle.std.proofs.Common.{refl, sym, ◌∙◌, arith}
use Rattle.std.proofs.lemmas.Result.{err_from_is_err_and}
use Rattle.overlay_map.proofs.CheckSteps.{PutsAllBut-none, PutsAllBut-next, PutsAllBut-stops, PutsAllBut-end}
use Rattle.overlay_map.proofs.checked_pairs.put_each.Goals as goal

pub loop-pair-init : goal.loop-pair-init
loop-pair-init c = record {
  put = PutsAllBut-none _ _ _ c.requires.empty;
  room = omega (arith, c.requires.room);
  hasher = refl;
}

pub returns-in_err-put-clause-checked : goal.returns-in_err-put-clause-checked
returns-in_err-put-clause-checked c =
    let p = err_from_is_err_and c.from_residual.result c.from_residual.ensures.1 in
    rw (p.1, p.2) (PutsAllBut-stops _ _ _ _ _ _ _ c.loop-pair.invariant.put c.loop-pair-test.true (sym c.put.ensures.checked ∙ c.in_err-put.was))

pub loop-pair-preserved : goal.loop-pair-preserved
loop-pair-preserved c = record {
  put = PutsAllBut-next _ _ _ _ _ _ _ c.loop-pair.invariant.put c.loop-pair-test.true (sym c.put.ensures.checked ∙ c.in_ok-put.was) c.in_ok-put.ensures.put;
  room = omega (arith, c.loop-pair.invariant.room, c.put.ensures.room);
  hasher = c.put.ensures.hasher ∙ c.loop-pair.invariant.hasher;
}

pub returns-clause-checked : goal.returns-clause-checked
returns-clause-checked c = (PutsAllBut-end _ _ _ _ _ c.loop-pair.invariant.put c.loop-pair-test.false).1

pub returns-clause-put : goal.returns-clause-put
returns-clause-put c = (PutsAllBut-end _ _ _ _ _ c.loop-pair.invariant.put c.loop-pair-test.false).0
