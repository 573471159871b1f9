use Rattle.std.proofs.Common.{refl}
use Rattle.std.proofs.lemmas.Result.{err_from_is_err_and}
use Rattle.resource_tool.proofs.values.OpenedValues.values_asked.Goals as goal

pub returns : goal.returns
returns g c = c.values_of.ensures

pub returns-in_err-stack : goal.returns-in_err-stack
returns-in_err-stack g c =
    let p = err_from_is_err_and c.from_residual.result c.from_residual.ensures.1 in
    rw (p.1, p.2) (λ told. absurd (told refl), λ told. refl)

pub returns-in_err-packages : goal.returns-in_err-packages
returns-in_err-packages g c =
    let p = err_from_is_err_and c.from_residual-in_err-packages.result c.from_residual-in_err-packages.ensures.1 in
    rw (p.1, p.2) (λ told. absurd (told refl), λ told. refl)
