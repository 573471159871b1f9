use Rattle.std.proofs.Common.{sym, ◌∙◌}
use Rattle.type_chunks.specs.Row.{row_of}
use Rattle.overlay_map.proofs.NameSteps.{key-name}
use Rattle.overlay_map.proofs.table.Table.key_name.Goals as goal

pub returns-in-Some : goal.returns-in-Some
returns-in-Some c =
    let lookup = c.in-Some.ensures.lookup in
    c.get-in-Some.ensures.text ∙ sym (key-name c.args.self.now (row_of c.args.row.now) c.packages.result.now c.packages.ensures.packages c.in-Some.package.now lookup.3.0 lookup.1)
