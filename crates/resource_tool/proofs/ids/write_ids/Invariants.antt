use Rattle.std.proofs.Common.{drop}
use Rattle.contract_words.proofs.TextSteps.{PutsAllBut}
use Rattle.resource_tool.specs.TableOutput.{id_line}
use Rattle.resource_tool.proofs.ids.write_ids.Given as goal

-- the lines of all ids were written but of those that are left
abbrev pub invariant-loop-id : goal.invariant-loop-id
invariant-loop-id g l = PutsAllBut (id_line l.stack) (g.W.Write.contents l.fn.out) (g.W.Write.contents l.out) l.ids (drop l.id-index l.ids)
