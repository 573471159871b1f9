use Rattle.std.proofs.Common.{◌≡◌, List, ◌∷◌, ◌++◌, length}
use Rattle.bag_rows.specs.declared.bag_row.BagRow.{BagRow}
use Rattle.bag_rows.specs.Merge.{merge}
use Rattle.bag_rows.proofs.merging.merge_row.Given as goal

-- the rows so far stand before what the own row and the inherited rows that are left become
abbrev pub invariant-smaller : goal.invariant-smaller
invariant-smaller l = (own : List BagRow) → l.fn.rows.items ++ merge l.fn.inherited (l.own ∷ own) ≡ l.rows.items ++ merge l.left (l.own ∷ own)

abbrev pub decreases-smaller : goal.decreases-smaller
decreases-smaller l = length l.left
