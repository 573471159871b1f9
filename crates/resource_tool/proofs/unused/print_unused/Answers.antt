use Rattle.std.proofs.Common.{Ok, ap, map, string_bytes}
use Rattle.resource_tool.proofs.PrintedUnused.{lines-then-totals}
use Rattle.resource_tool.proofs.unused.print_unused.Goals as goal

pub returns : goal.returns
returns g c =
    let uses = map (λ of_layer. of_layer.items) c.args.uses.now in
    let told = rw c.new-text.ensures.items at c.in_ok-totals.ensures.0 in
    let put = rw c.deref.ensures.value at c.in_ok-write_all.ensures.bytes in
    let it = lines-then-totals _ _ _ c.args.form (map string_bytes c.args.paths.now) c.args.stack uses c.in_ok-totals.totals _ c.negative_if.result told c.in_ok-totals.ensures.1 c.negative_if.ensures put c.in_ok-write.ensures in
    (it.0, ap Ok it.1, it.2)
