use Rattle.std.proofs.Common.{map, drop}
use Rattle.std.specs.List.{flat_map}
use Rattle.names.specs.Names.{wanted_of}
use Rattle.names.specs.NamedSet.{named_set_of}
use Rattle.names.specs.AskedNames.{names_in_set}
use Rattle.names.proofs.AskedSteps.{JoinsBut}
use Rattle.names.proofs.asked_names.names_in_sets.Given as goal

abbrev pub invariant-loop-set : goal.invariant-loop-set
invariant-loop-set l =
    JoinsBut (λ set. names_in_set (named_set_of set)) (map wanted_of l.names.items) (drop l.set-index l.sets) (flat_map (λ set. names_in_set (named_set_of set)) l.sets)
