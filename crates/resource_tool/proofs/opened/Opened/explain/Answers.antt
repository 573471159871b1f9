use Rattle.std.proofs.Common.{refl}
use Rattle.resource_tool.proofs.opened.Opened.explain.Goals as goal

pub returns : goal.returns
returns g c =
    let text = rw c.in_ok-names.ensures at c.in_ok-end.ensures.text in
    let status = rw (c.in_ok-end.ensures.end, c.in_ok-names.ensures) at c.status_of_end.ensures in
    (_, rw status refl, text)
