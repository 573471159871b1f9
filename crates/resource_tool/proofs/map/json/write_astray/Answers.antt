use Rattle.resource_tool.proofs.NoFloats.{astray-no_float}
use Rattle.resource_tool.proofs.map.json.write_astray.Goals as goal

pub write_line-requires : goal.write_line-requires
write_line-requires g c =
    rw (c.in_ok-put_end-2.ensures, c.in_ok-put_end.ensures, c.in_ok-members.ensures)
    (astray-no_float c.args.overlay.now _ _)
