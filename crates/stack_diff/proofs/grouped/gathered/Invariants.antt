use Rattle.std.proofs.Common.{List, ◌++◌, map, length}
use Rattle.std.specs.List.{All}
use Rattle.cert_maker.specs.box_answers.NumberSet.{SetOf}
use Rattle.stack_diff.specs.declared.pair.Pair.{Pair}
use Rattle.stack_diff.specs.Once.{KeepsEach}
use Rattle.stack_diff.specs.Changes.{change_of, boxes_in}
use Rattle.stack_diff.specs.Tree.{IsRight, boxes_told}
use Rattle.stack_diff.specs.Grouped.{differences_told, differences_in, AreGathered}
use Rattle.stack_diff.proofs.Rising.{AreRising}
use Rattle.stack_diff.proofs.grouped.gathered.Given as goal

abbrev pub invariant-leaves : goal.invariant-leaves
invariant-leaves l = record {
  devices : KeepsEach (boxes_told l.fn.told.items) (boxes_told l.told.items ++ boxes_in (map change_of l.changes.items));
  gathered : (pair : Pair) (sets : List SetOf) → All (IsRight pair sets) l.fn.told.items → All (IsRight pair sets) l.told.items × AreGathered pair sets l.changes.items;
  rising : AreRising (differences_told l.told.items) (differences_in l.changes.items);
}

abbrev pub decreases-leaves : goal.decreases-leaves
decreases-leaves l = length l.told.items
