use Rattle.std.proofs.Common.{refl}
use Rattle.resource_tool.proofs.Answering.{printed_unless}
use Rattle.resource_tool.proofs.Written.{printed_if_written}
use Rattle.resource_tool.proofs.opened.Opened.attr.Goals as goal

pub returns : goal.returns
returns g c = printed_unless g.W.Write.contents c.args.out.now c.print_no_bag.new.out c.print_no_bag.result c.in-Err.fault _ c.print_no_bag.ensures.printed c.print_no_bag.ensures.memory (λ told. rw (c.in-Err.ensures told) refl)

pub returns-in-Ok : goal.returns-in-Ok
returns-in-Ok g c =
    let text = rw (c.in_ok-names.ensures, c.attribute-end.ensures) at c.write_attribute.ensures in
    let status = rw (c.status_of_end.ensures, c.attribute-end.ensures) at c.ended.ensures in
    rw c.in-Ok.ensures (printed_if_written g.W.Write.contents c.args.out.now c.write_attribute.new.out c.write_attribute.result c.ended.result _ text status)
