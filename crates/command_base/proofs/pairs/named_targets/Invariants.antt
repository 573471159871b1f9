use Rattle.std.proofs.Common.{drop, map}
use Rattle.std.specs.List.{flat_map}
use Rattle.command_base.specs.answer_text.overlay_map.Table.{rows_of}
use Rattle.command_base.specs.answer_text.type_chunks.Row.{row_of}
use Rattle.command_base.specs.FirstRows.{first_rows}
use Rattle.command_base.specs.NamedTarget.{named_in, named_seen}
use Rattle.command_base.proofs.LoopSteps.{JoinsAllBut}
use Rattle.command_base.proofs.pairs.named_targets.Given as goal

-- those of all rows were pushed but of the rows that are left
abbrev pub invariant-loop-row : goal.invariant-loop-row
invariant-loop-row l =
    JoinsAllBut (named_in l.target l.package_id) (map named_seen l.targets.items) (flat_map (named_in l.target l.package_id) (first_rows (rows_of l.target)))
    (map row_of (drop l.row-index l.row-items))
