use Rattle.std.proofs.Common.{arith}
use Rattle.std.proofs.lemmas.Grind.{common_steps}
use Rattle.std.proofs.lemmas.Result.{err_from_is_err_and}
use Rattle.contract_words.proofs.SequenceSteps.{ReadsKnowing-next, ReadsKnowing-stops, ReadsKnowing-end, ReadsKnowing-known}
use Rattle.overlay_map.proofs.ChildrenSteps.{table-whole, table-stops}
use Rattle.overlay_map.proofs.table.Table.read_children.Goals as goal

pub loop-found-preserved : goal.loop-found-preserved
loop-found-preserved c =
    let so_far = c.loop-found.invariant.read in
    record {
      can = tt;
      ends = tt;
      few = grind (arith, common_steps, c.in-Some.ensures.steps, c.loop-found.invariant.few, c.in_ok-push_child.ensures.one);
      fits = grind (arith, common_steps, c.in-Some.ensures.steps, c.loop-found.invariant.fits, c.in_ok-push_child.ensures.one_package);
      read = ReadsKnowing-next _ _ _ _ _ _ _ _ _ _ _ so_far c.in-Some.ensures.steps (c.in_ok-push_child.ensures.known so_far.before so_far.known) (c.in_ok-push_child.ensures.packages so_far.before so_far.known);
    }

pub returns-in_err-push_child : goal.returns-in_err-push_child
returns-in_err-push_child c =
    let so_far = c.loop-found.invariant.read in
    let p = err_from_is_err_and c.from_residual.result c.from_residual.ensures.1 in
    rw (p.1, p.2) (λ other. table-stops _ _ (ReadsKnowing-stops _ _ _ _ _ _ _ _ _ _ so_far c.in-Some.ensures.steps (c.in_err-push_child.ensures.packages so_far.before so_far.known other)))

pub returns : goal.returns
returns c =
    let so_far = c.loop-found.invariant.read in
    rw c.strings_or_none.ensures (table-whole _ _ _ (ReadsKnowing-end _ _ _ _ _ _ _ so_far c.in-None.ensures.steps.0) (ReadsKnowing-known _ _ _ _ _ _ _ so_far c.in-None.ensures.steps.0))
