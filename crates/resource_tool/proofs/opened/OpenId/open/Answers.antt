use Rattle.std.proofs.Common.{refl}
use Rattle.std.proofs.lemmas.Result.{err_from_is_err_and}
use Rattle.resource_tool.specs.Opened.{id_opened}
use Rattle.resource_tool.proofs.opened.OpenId.open.Goals as goal

pub returns : goal.returns
unfolding id_opened
returns c = rw (c.in_ok-opened.ensures, c.in_ok-id.ensures) refl

pub returns-in_err-opened : goal.returns-in_err-opened
unfolding id_opened
returns-in_err-opened c =
    let p = err_from_is_err_and c.from_residual.result c.from_residual.ensures.1 in
    rw (p.1, p.2) (λ told. rw (c.in_err-opened.ensures told) refl)
