use Rattle.std.proofs.Common.{◌≡◌, ◌++◌}
use Rattle.std.specs.List.{items_where_true}
use Rattle.std.specs.Vec.Iter.{into_iter_items}
use Rattle.names.proofs.pairs.keep.Given as goal

-- with those of what is left all are kept
abbrev pub invariant-loop-pair : goal.invariant-loop-pair
invariant-loop-pair l = l.kept.items ++ items_where_true (into_iter_items l.flags) (into_iter_items l.pair-iterator) ≡ items_where_true l.fn.asked.items l.fn.pairs.items
