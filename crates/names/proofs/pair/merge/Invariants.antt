use Rattle.std.proofs.Common.{◌≡◌, ◌++◌, [], map, drop}
use Rattle.names.specs.Merged.{labelled_of, merged}
use Rattle.names.specs.Pairs.{pair_of}
use Rattle.names.proofs.pair.merge.Given as goal

-- the pairs so far stand before what the labels that are left become
abbrev pub invariant-loop-one : goal.invariant-loop-one
invariant-loop-one l =
    merged (map labelled_of l.old) (map labelled_of l.new) ≡ map pair_of l.pairs.items ++ merged (map labelled_of (drop l.place l.old)) (map labelled_of (drop l.one-index l.new))

abbrev pub invariant-loop-left : goal.invariant-loop-left
invariant-loop-left l = merged (map labelled_of l.old) (map labelled_of l.new) ≡ map pair_of l.pairs.items ++ merged (map labelled_of (drop l.left l.old)) []
