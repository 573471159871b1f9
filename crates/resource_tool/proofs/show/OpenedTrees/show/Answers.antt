use Rattle.std.proofs.Common.{refl}
use Rattle.resource_tool.proofs.show.OpenedTrees.show.Goals as goal

pub returns : goal.returns
returns g c =
    let text = rw (c.deref.ensures.value, c.in_ok-text.ensures, c.as_slice.ensures.value, c.in_ok-names.ensures) at c.in_ok-write_on_line.ensures in
    (_, refl, text)
