use Rattle.std.proofs.Common.{◌≡◌}
use Rattle.std.specs.List.{flat_map}
use Rattle.command_base.specs.cert_tree.box_answers.NumberSet.{locale_numbers}
use Rattle.command_base.specs.overlay_map.string_pool.Pool.{pool_of}
use Rattle.resource_tool.specs.Findings.{noted}
use Rattle.resource_tool.specs.LayerNotes.{notes_of_rows}
use Rattle.resource_tool.specs.RowNotes.{notes_of_row}
use Rattle.resource_tool.proofs.survey.rows.note_rows.Given as goal

-- what the rows that are left have comes to the findings that all rows come to
abbrev pub invariant-loop-row : goal.invariant-loop-row
invariant-loop-row l = record {
  can : (goal.iterator-loop-row).can_next l.row-iterator;
  ends : (goal.iterator-loop-row).is_finite l.row-iterator;
  left : noted l.findings (flat_map (notes_of_row l.rule (locale_numbers l.locales) (pool_of l.strings)) l.row-iterator) ≡ noted l.fn.findings (notes_of_rows l.rule l.stack (locale_numbers l.locales) l.place);
}
