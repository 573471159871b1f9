use Rattle.contract_words.proofs.TextSteps.{PutsAllBut}
use Rattle.stack_diff.specs.names.Pairs.{pair_of}
use Rattle.resource_tool.specs.DiffLines.{pair_lines}
use Rattle.resource_tool.proofs.PairSteps.{both_from, both_lists}
use Rattle.resource_tool.proofs.lines.write_labels.Given as goal

abbrev pub invariant-loop-place : goal.invariant-loop-place
invariant-loop-place g l =
    PutsAllBut (pair_lines l.before l.packages) (g.W.Write.contents l.fn.out) (g.W.Write.contents l.out) (both_lists pair_of l.pairs l.told) (both_from pair_of l.pairs l.told l.place)
