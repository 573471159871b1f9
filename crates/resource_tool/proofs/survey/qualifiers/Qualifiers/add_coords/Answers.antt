use Rattle.std.proofs.Common.{sym, ◌∙◌}
use Rattle.command_base.specs.overlay_map.type_chunks.Row.{row_of}
use Rattle.resource_tool.specs.Counting.{said_at}
use Rattle.resource_tool.proofs.QualifierSteps.{counted-one, counted-next_at, counted-end_at}
use Rattle.resource_tool.proofs.survey.qualifiers.Qualifiers.add_coords.Goals as goal

pub loop-coord-preserved : goal.loop-coord-preserved
loop-coord-preserved c =
    let added = rw c.number_said.ensures at c.add_number.ensures in
    sym (counted-next_at c.loop-coord.self c.add_number.new.self (said_at (row_of c.args.row.now)) c.args.coords.now c.loop-coord.coord-index _ c.loop-coord-test.true (added ∙ sym (counted-one _ _)))
    ∙ c.loop-coord.invariant

pub returns : goal.returns
returns c = sym (counted-end_at c.loop-coord.self (said_at (row_of c.args.row.now)) c.args.coords.now c.loop-coord.coord-index c.loop-coord-test.false) ∙ c.loop-coord.invariant
