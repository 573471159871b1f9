use Rattle.std.proofs.Common.{drop, map}
use Rattle.contract_words.proofs.TextSteps.{PutsAllBut}
use Rattle.command_base.specs.AstraySeen.{astray_of}
use Rattle.command_base.specs.answer_text.type_chunks.Row.{row_of}
use Rattle.command_base.specs.overlay_map.IdMap.{pairs_of}
use Rattle.resource_tool.specs.MapJson.{astray_json, pair_json, unmapped_json}
use Rattle.resource_tool.proofs.map.json.write_lines.Given as goal

-- the lines of all pairs were written but of those that are left
abbrev pub invariant-loop-pair : goal.invariant-loop-pair
invariant-loop-pair g l =
    PutsAllBut (pair_json l.first.table.now) (g.W.Write.contents l.fn.out) (g.W.Write.contents l.out) (pairs_of l.pairs) (pairs_of (drop l.pair-index l.pairs))

-- so were then those of all rows
abbrev pub invariant-loop-row : goal.invariant-loop-row
invariant-loop-row g l =
    PutsAllBut (unmapped_json l.first.table.now) (g.W.Write.contents l.initial.out) (g.W.Write.contents l.out) (map row_of l.unmapped) (map row_of (drop l.row-index l.unmapped))

-- and those of all references
abbrev pub invariant-loop-found : goal.invariant-loop-found
invariant-loop-found g l =
    PutsAllBut (astray_json l.first.table.now) (g.W.Write.contents l.initial.out) (g.W.Write.contents l.out) (map astray_of l.astray) (map astray_of (drop l.found-index l.astray))
