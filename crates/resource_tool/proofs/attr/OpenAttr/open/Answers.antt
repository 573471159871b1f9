use Rattle.resource_tool.proofs.Answering.{found_stops}
use Rattle.std.proofs.Common.{refl}
use Rattle.std.proofs.lemmas.Result.{err_from_is_err_and}
use Rattle.resource_tool.specs.AttrOutput.{attr_opened}
use Rattle.resource_tool.proofs.attr.OpenAttr.open.Goals as goal

pub returns-in_err-opened : goal.returns-in_err-opened
unfolding attr_opened
returns-in_err-opened c =
    let p = err_from_is_err_and c.from_residual-in_err-opened.result c.from_residual-in_err-opened.ensures.1 in
    rw (p.1, p.2) (λ told. rw (c.in_ok-sets.ensures, c.in_err-opened.ensures told) refl)

pub returns-in_err-sets : goal.returns-in_err-sets
unfolding attr_opened
returns-in_err-sets c =
    let p = err_from_is_err_and c.from_residual.result c.from_residual.ensures.1 in
    rw (p.1, p.2) (λ told. rw (c.in_err-sets.ensures told) refl)

pub returns : goal.returns
unfolding attr_opened
returns c =
    let styles = rw c.deref.ensures.value at c.in_ok-styles.ensures in
    rw (c.in_ok-sets.ensures, c.in_ok-opened.ensures, c.in_ok-attr.ensures, styles) refl

pub returns-in_err-styles : goal.returns-in_err-styles
unfolding attr_opened
returns-in_err-styles c =
    let p = err_from_is_err_and c.from_residual-in_err-styles.result c.from_residual-in_err-styles.ensures.1 in
    let unnamed = rw c.deref.ensures.value at c.in_err-styles.ensures in
    rw (p.1, p.2) (λ told. rw (c.in_ok-sets.ensures, c.in_ok-opened.ensures, c.in_ok-attr.ensures, found_stops _ _ unnamed told) refl)

pub returns-in_err-attr : goal.returns-in_err-attr
unfolding attr_opened
returns-in_err-attr c =
    let p = err_from_is_err_and c.from_residual-in_err-attr.result c.from_residual-in_err-attr.ensures.1 in
    rw (p.1, p.2) (λ told. rw (c.in_ok-sets.ensures, c.in_ok-opened.ensures, found_stops _ _ c.in_err-attr.ensures told) refl)
