use Rattle.resource_tool.proofs.NoFloats.{unmapped-no_float}
use Rattle.resource_tool.proofs.map.json.write_unmapped.Goals as goal

pub write_line-requires : goal.write_line-requires
write_line-requires g c =
    rw (c.in_ok-put_row.ensures, c.in_ok-members.ensures)
    (unmapped-no_float c.args.overlay.now _)
