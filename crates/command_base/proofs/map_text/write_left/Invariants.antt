use Rattle.std.proofs.Common.{drop, map}
use Rattle.contract_words.proofs.TextSteps.{PutsAllBut}
use Rattle.command_base.specs.answer_text.type_chunks.Row.{row_of}
use Rattle.command_base.specs.AstraySeen.{astray_of}
use Rattle.command_base.specs.MapText.{astray_line, unmapped_line}
use Rattle.command_base.proofs.map_text.write_left.Given as goal

-- the lines of all rows were written but of those that are left
abbrev pub invariant-loop-row : goal.invariant-loop-row
invariant-loop-row g l =
    PutsAllBut (unmapped_line l.before l.overlay) (g.W.Write.contents l.fn.out) (g.W.Write.contents l.out) (map row_of l.unmapped) (map row_of (drop l.row-index l.unmapped))

-- so were then the lines of all references
abbrev pub invariant-loop-found : goal.invariant-loop-found
invariant-loop-found g l =
    PutsAllBut (astray_line l.before l.overlay) (g.W.Write.contents l.initial.out) (g.W.Write.contents l.out) (map astray_of l.astray) (map astray_of (drop l.found-index l.astray))
