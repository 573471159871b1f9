use Rattle.std.proofs.Common.{refl}
use Rattle.resource_tool.proofs.map.print_map.Goals as goal

pub returns-clause-prints : goal.returns-clause-prints
returns-clause-prints g c =
    let json = rw (c.deref.ensures.value, c.in_ok-made.ensures.json) at c.in_ok-write_all.ensures.bytes in
    let left = rw (c.deref-2.ensures.value, c.in_ok-made.ensures.left) at c.in_ok-write_on_line.ensures in
    (_, _, rw (c.negative_if.ensures, c.in_ok-made.ensures.whole) refl, json, left)
