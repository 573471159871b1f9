use Rattle.std.proofs.Common.{◌≡◌, List, map, drop}
use Rattle.names.specs.NamedPairs.{first_fault}
use Rattle.names.specs.NamedSet.{named_set_of}
use Rattle.names.specs.Packages.{package_name_of}
use Rattle.names.specs.Pairs.{PairOf}
use Rattle.names.specs.AskedWords.{AreAsked}
use Rattle.names.proofs.pairs.check_each.Given as goal

-- the first fault is one of the words that are left
abbrev pub invariant-loop-set : goal.invariant-loop-set
invariant-loop-set l = (pairs : List PairOf) → AreAsked (map package_name_of l.packages) (map named_set_of l.sets) pairs l.words
    → first_fault (map package_name_of l.packages) pairs (map named_set_of (drop l.set-index l.sets)) ≡ first_fault (map package_name_of l.packages) pairs (map named_set_of l.sets)
