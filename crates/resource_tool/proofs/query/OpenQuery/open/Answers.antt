use Rattle.resource_tool.proofs.Answering.{found_stops}
use Rattle.std.proofs.Common.{refl}
use Rattle.std.proofs.lemmas.Result.{err_from_is_err_and}
use Rattle.resource_tool.specs.QueryOutput.{query_opened}
use Rattle.resource_tool.proofs.query.OpenQuery.open.Goals as goal

pub returns-in_err-opened : goal.returns-in_err-opened
unfolding query_opened
returns-in_err-opened c =
    let p = err_from_is_err_and c.from_residual-in_err-opened.result c.from_residual-in_err-opened.ensures.1 in
    rw (p.1, p.2) (λ told. rw (c.in_ok-sets.ensures, c.in_err-opened.ensures told) refl)

pub returns-in_err-sets : goal.returns-in_err-sets
unfolding query_opened
returns-in_err-sets c =
    let p = err_from_is_err_and c.from_residual.result c.from_residual.ensures.1 in
    rw (p.1, p.2) (λ told. rw (c.in_err-sets.ensures told) refl)

pub returns : goal.returns
unfolding query_opened
returns c =
    let ids = rw c.deref.ensures.value at c.in_ok-ids.ensures in
    rw (c.in_ok-sets.ensures, c.in_ok-opened.ensures, ids) refl

pub returns-in_err-ids : goal.returns-in_err-ids
unfolding query_opened
returns-in_err-ids c =
    let p = err_from_is_err_and c.from_residual-in_err-ids.result c.from_residual-in_err-ids.ensures.1 in
    let unnamed = rw c.deref.ensures.value at c.in_err-ids.ensures in
    rw (p.1, p.2) (λ told. rw (c.in_ok-sets.ensures, c.in_ok-opened.ensures, found_stops _ _ unnamed told) refl)
