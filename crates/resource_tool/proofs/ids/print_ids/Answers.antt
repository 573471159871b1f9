use Rattle.resource_tool.proofs.Written.{printed_if_written}
use Rattle.resource_tool.proofs.ids.print_ids.Goals as goal

pub returns : goal.returns
returns g c =
    let text = rw (c.in_ok-names.ensures, c.deref.ensures.value, c.in_ok-ids.ensures) at c.write_ids.ensures in
    printed_if_written g.W.Write.contents c.args.out.now c.write_ids.new.out c.write_ids.result c.ended.result _ text c.ended.ensures
