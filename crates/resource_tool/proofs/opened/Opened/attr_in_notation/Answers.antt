use Rattle.std.proofs.Common.{refl}
use Rattle.resource_tool.proofs.Answering.{printed_unless}
use Rattle.resource_tool.proofs.opened.Opened.attr_in_notation.Goals as goal

pub returns-in_ok-text-in-Ok : goal.returns-in_ok-text-in-Ok
returns-in_ok-text-in-Ok g c =
    let text = rw (c.in_ok-naming-in-Ok.ensures, c.slot-slot.ensures) at c.in_ok-text-in-Ok.ensures in
    rw c.in-Ok.ensures (rw (c.status_of_end-status.ensures, c.attribute.ensures, c.deref.ensures.value, text) at c.print_text.ensures)

pub returns-in-Err : goal.returns-in-Err
returns-in-Err g c = printed_unless g.W.Write.contents c.args.out.now c.print_no_bag.new.out c.print_no_bag.result c.in-Err.fault _ c.print_no_bag.ensures.printed c.print_no_bag.ensures.memory (λ told. rw (c.in-Err.ensures told) refl)
