use Rattle.std.proofs.Common.{ap, refl}
use Rattle.std.proofs.lemmas.Result.{err_from_is_err_and}
use Rattle.command_base.specs.Stop.{tool}
use Rattle.resource_tool.specs.Opened.{opened_by}
use Rattle.resource_tool.proofs.opened.Opened.read_by.Goals as goal

pub returns-in_err-device : goal.returns-in_err-device
unfolding opened_by
returns-in_err-device c =
    let stack = rw (c.deref.ensures.value, c.in_ok-layers.ensures) at c.in_ok-stack.ensures.value in
    let p = err_from_is_err_and c.from_residual-in_err-device.result c.from_residual-in_err-device.ensures.1 in
    rw (p.1, p.2) (λ told. rw (stack, c.in_err-device.ensures told) refl)

pub returns : goal.returns
unfolding opened_by
returns c =
    let stack = rw (c.deref.ensures.value, c.in_ok-layers.ensures) at c.in_ok-stack.ensures.value in
    rw (stack, c.in_ok-device.ensures) refl

pub returns-in_err-stack : goal.returns-in_err-stack
unfolding opened_by
returns-in_err-stack c =
    let stopped = rw (c.deref.ensures.value, c.in_ok-layers.ensures) at c.in_err-stack.ensures.value in
    let p = err_from_is_err_and c.from_residual-in_err-stack.result c.from_residual-in_err-stack.ensures.1 in
    rw (p.1, p.2) (λ told. rw (stopped (λ is. told (ap tool is))) refl)
