use Rattle.resource_tool.proofs.NoFloats.{pair-no_float}
use Rattle.resource_tool.proofs.map.json.write_pair.Goals as goal

pub write_line-requires : goal.write_line-requires
write_line-requires g c =
    rw (c.in_ok-put_first.ensures, c.in_ok-put-2.ensures.ok, c.in_ok-id_json-2.ensures, c.in_ok-put.ensures.ok, c.in_ok-id_json.ensures, c.in_ok-members.ensures)
    (pair-no_float c.args.first.now.table.now _ _ _)
