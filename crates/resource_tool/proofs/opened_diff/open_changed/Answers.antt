use Rattle.std.proofs.Common.{sym, ◌∙◌}
use Rattle.std.proofs.lemmas.Result.{err_from_is_err_and}
use Rattle.resource_tool.proofs.SameBytes.{same-bytes}
use Rattle.resource_tool.proofs.opened_diff.open_changed.Goals as goal

pub returns-then-have_same_bytes : goal.returns-then-have_same_bytes
returns-then-have_same_bytes c =
    let same = sym c.have_same_bytes.ensures ∙ c.if-have_same_bytes.true in
    (same, same-bytes _ _ same)

pub returns-in_err-stack : goal.returns-in_err-stack
returns-in_err-stack c =
    let p = err_from_is_err_and c.from_residual.result c.from_residual.ensures.1 in
    rw (p.1, p.2) (c.in_err-stack.ensures.of_input, c.in_err-stack.ensures.value)

pub returns : goal.returns
returns c = (sym c.have_same_bytes.ensures ∙ c.if-have_same_bytes.false, c.in_ok-stack.ensures.value)
