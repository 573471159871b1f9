use Rattle.std.proofs.Common.{arith}
use Rattle.std.proofs.lemmas.Grind.{common_steps}
use Rattle.res_value.specs.Cell.{cell_of}
use Rattle.type_entries.specs.TypeChunk.{type_chunk_of}
use Rattle.type_entries.proofs.EntrySteps.{entry_at-rows}
use Rattle.type_entries.proofs.type_chunk.TypeChunk.entry_at.Goals as goal

pub returns-then-index-self : goal.returns-then-index-self
returns-then-index-self c =
    let rows = entry_at-rows (type_chunk_of c.args.self.now) c.args.index c.args.at c.requires.checked (cell_of c.cell-cell.result) c.cell-cell.ensures in
    grind (arith, common_steps, rows, c.then-index-self.either)

pub returns : goal.returns
returns c =
    let rows = entry_at-rows (type_chunk_of c.args.self.now) c.args.index c.args.at c.requires.checked (cell_of c.cell-cell.result) c.cell-cell.ensures in
    grind (arith, common_steps, rows)
