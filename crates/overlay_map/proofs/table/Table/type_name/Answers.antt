use Rattle.std.proofs.Common.{sym, ap, ◌∙◌}
use Rattle.type_chunks.specs.string_pool.Pool.{pool_of}
use Rattle.type_chunks.specs.string_pool.Text.{text_in}
use Rattle.type_chunks.specs.Row.{row_of}
use Rattle.overlay_map.proofs.NameSteps.{type-name, no-type-name}
use Rattle.overlay_map.proofs.table.Table.type_name.Goals as goal

pub returns-in-Some-checked_sub : goal.returns-in-Some-checked_sub
returns-in-Some-checked_sub c =
    let lookup = c.in-Some.ensures.lookup in
    let index = c.in-Some-checked_sub.ensures in
    c.get-in-Some-checked_sub.ensures.text
    ∙ ap (text_in (pool_of c.in-Some.package.now.header.type_names)) index.1
    ∙ sym (type-name c.args.self.now (row_of c.args.row.now) c.packages.result.now c.packages.ensures.packages c.in-Some.package.now lookup.3.0 lookup.1 c.from.result (c.from.ensures ∙ c.type_id.ensures) index.0)

pub returns-in-None : goal.returns-in-None
returns-in-None c =
    let lookup = c.in-Some.ensures.lookup in
    sym (no-type-name c.args.self.now (row_of c.args.row.now) c.packages.result.now c.packages.ensures.packages c.in-Some.package.now lookup.3.0 lookup.1 c.from.result (c.from.ensures ∙ c.type_id.ensures) c.in-None.ensures)
