use Rattle.std.proofs.Common.{refl}
use Rattle.std.proofs.lemmas.Result.{err_from_is_err_and}
use Rattle.resource_tool.specs.Values.{values_inputs_by}
use Rattle.resource_tool.proofs.values.OpenedValues.read.Goals as goal

pub returns : goal.returns
unfolding values_inputs_by
returns c =
    let stack = rw (c.deref.ensures.value, c.in_ok-layers.ensures) at c.in_ok-stack.ensures.value in
    let members = rw c.deref-2.ensures.value at c.in_ok-members.ensures.value in
    rw (stack, members) refl

pub returns-in_err-stack : goal.returns-in_err-stack
unfolding values_inputs_by
returns-in_err-stack c =
    let p = err_from_is_err_and c.from_residual-in_err-stack.result c.from_residual-in_err-stack.ensures.1 in
    rw (p.1, p.2) (λ told.
    let stopped = rw (c.deref.ensures.value, c.in_ok-layers.ensures) at (c.in_err-stack.ensures.value told) in rw stopped refl)
