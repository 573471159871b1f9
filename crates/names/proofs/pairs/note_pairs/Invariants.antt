use Rattle.std.proofs.Common.{◌≡◌, [], List, map, take}
use Rattle.names.specs.AskedWords.{AreAsked}
use Rattle.names.specs.NamedPairs.{is_asked}
use Rattle.names.specs.NamedSet.{NamedSetOf}
use Rattle.names.specs.Packages.{package_name_of}
use Rattle.names.specs.Pairs.{pair_of}
use Rattle.names.proofs.pairs.note_pairs.Given as goal

abbrev pub invariant-loop-pair : goal.invariant-loop-pair
invariant-loop-pair l = (sets : List NamedSetOf) → AreAsked (map package_name_of l.packages) sets [] l.fn.words
    → AreAsked (map package_name_of l.packages) sets (map pair_of (take l.pair-index l.pairs)) l.words
    × (l.asked.items ≡ map (λ pair. is_asked (map package_name_of l.packages) sets (pair_of pair)) (take l.pair-index l.pairs))
