use Rattle.contract_words.proofs.TextSteps.{PutsAllBut}
use Rattle.resource_text.specs.TableNotation.{dump_row_notation}
use Rattle.resource_text.proofs.dump.write_package_rows.Given as goal

-- the lines of all rows were written but of those that are left
abbrev pub invariant-loop-row : goal.invariant-loop-row
invariant-loop-row g l = record {
  can : (goal.iterator-loop-row g).can_next l.row-iterator;
  ends : (goal.iterator-loop-row g).is_finite l.row-iterator;
  texts : PutsAllBut (dump_row_notation l.naming) (g.W.Write.contents l.fn.out) (g.W.Write.contents l.out) l.fn.rows l.row-iterator;
}
