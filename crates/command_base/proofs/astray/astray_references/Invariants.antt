use Rattle.std.proofs.Common.{map}
use Rattle.command_base.specs.AstraySeen.{astray_of, map_of, overlay_of}
use Rattle.command_base.specs.MadeMap.{astray_in, astray}
use Rattle.command_base.proofs.LoopSteps.{JoinsAllBut}
use Rattle.command_base.proofs.astray.astray_references.Given as goal

-- those of all rows were found but of the rows that are left
abbrev pub invariant-loop-row : goal.invariant-loop-row
invariant-loop-row l =
    JoinsAllBut (astray_in (overlay_of l.search) (map_of l.search)) (map astray_of l.found.items) (astray l.first.table.now (map_of l.search)) l.row-iterator
