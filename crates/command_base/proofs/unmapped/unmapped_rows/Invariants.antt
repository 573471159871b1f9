use Rattle.std.proofs.Common.{drop, map}
use Rattle.command_base.specs.overlay_map.IdMap.{pairs_of}
use Rattle.command_base.specs.answer_text.type_chunks.Row.{row_of}
use Rattle.command_base.specs.MadeMap.{if_unmapped}
use Rattle.command_base.proofs.LoopSteps.{GivesAllBut}
use Rattle.command_base.proofs.unmapped.unmapped_rows.Given as goal

-- all rows were looked at but those that are left
abbrev pub invariant-loop-row : goal.invariant-loop-row
invariant-loop-row l =
    GivesAllBut (if_unmapped (pairs_of l.mapped.pairs.now)) (map row_of l.left.items) (map row_of l.row-items) (map row_of (drop l.row-index l.row-items))
