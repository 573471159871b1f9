use Rattle.std.proofs.Common.{refl}
use Rattle.resource_tool.proofs.opened.Opened.query.Goals as goal

pub returns : goal.returns
returns g c =
    let text = rw c.in_ok-names.ensures at c.in_ok-write_ends.ensures.text in
    let status = rw c.in_ok-names.ensures at c.in_ok-write_ends.ensures.status in
    (_, rw status refl, text)
