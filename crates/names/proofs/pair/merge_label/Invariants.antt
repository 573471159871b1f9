use Rattle.std.proofs.Common.{◌≡◌, ◌-◌, List, ◌∷◌, ◌++◌, length, map, drop}
use Rattle.names.specs.Merged.{labelled_of, merged}
use Rattle.names.specs.Pairs.{pair_of}
use Rattle.names.specs.StackLabels.{Labelled}
use Rattle.names.proofs.pair.merge_label.Given as goal

-- the pairs so far stand before what the new label and the old ones that are left become
abbrev pub invariant-smaller : goal.invariant-smaller
invariant-smaller l =
    (others : List Labelled) → map pair_of l.fn.pairs.items ++ merged (map labelled_of (drop l.start l.old)) (labelled_of l.new ∷ others)
    ≡ map pair_of l.pairs.items ++ merged (map labelled_of (drop l.place l.old)) (labelled_of l.new ∷ others)

abbrev pub decreases-smaller : goal.decreases-smaller
decreases-smaller l = length l.old - l.place
