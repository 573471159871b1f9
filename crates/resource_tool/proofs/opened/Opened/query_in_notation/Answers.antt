use Rattle.std.proofs.Common.{refl}
use Rattle.resource_tool.specs.QueryOutput.{notation_text}
use Rattle.resource_tool.proofs.opened.Opened.query_in_notation.Goals as goal

pub returns : goal.returns
unfolding notation_text
returns g c =
    let printed = rw (c.deref.ensures.value, c.in_ok-text.ensures) at c.in_ok-write_notation.ensures in
    (_, rw (c.negative_if.ensures, c.has_unresolved-unresolved.ensures) refl, printed)
