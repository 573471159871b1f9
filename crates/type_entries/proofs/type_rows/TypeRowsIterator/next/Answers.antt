use Rattle.std.proofs.Common.{sym, ◌∙◌, arith}
use Rattle.std.proofs.lemmas.Grind.{common_steps}
use Rattle.type_entries.specs.Row.{row_of}
use Rattle.type_entries.specs.TypeChunk.{type_chunk_of}
use Rattle.type_entries.proofs.TypeRowsSteps.{rows_from-row, rows_from-no_row}
use Rattle.type_entries.proofs.type_rows.TypeRowsIterator.next.Goals as goal

pub returns-in-Some-row_at_position-clause-steps : goal.returns-in-Some-row_at_position-clause-steps
returns-in-Some-row_at_position-clause-steps c =
    let found = c.in-Some.ensures.found in
    sym c.loop-position.invariant ∙ rows_from-row (type_chunk_of c.loop-position.self-inside.of.chunk) c.loop-position.self-inside.position c.in-Some.position (row_of c.in-Some-row_at_position.row) found.0 found.1 found.2 c.in-Some-row_at_position.ensures

pub returns-in-Some-row_at_position-clause-goes : goal.returns-in-Some-row_at_position-clause-goes
returns-in-Some-row_at_position-clause-goes c =
    let found = c.in-Some.ensures.found in
    let chunk = type_chunk_of c.loop-position.self-inside.of.chunk in
    let steps = rows_from-row chunk c.loop-position.self-inside.position c.in-Some.position (row_of c.in-Some-row_at_position.row) found.0 found.1 found.2 c.in-Some-row_at_position.ensures in
    grind (arith, common_steps, steps, c.loop-position.invariant)

pub loop-position-preserved : goal.loop-position-preserved
loop-position-preserved c =
    let found = c.in-Some.ensures.found in
    sym (rows_from-no_row (type_chunk_of c.loop-position.self-inside.of.chunk) c.loop-position.self-inside.position c.in-Some.position found.0 found.1 found.2 c.in_default-row_at_position.ensures) ∙ c.loop-position.invariant
