use Rattle.std.proofs.Common.{◌++◌, map, drop}
use Rattle.std.specs.List.{flat_map}
use Rattle.names.specs.Names.{wanted_of}
use Rattle.names.specs.Named.{named_of}
use Rattle.names.specs.AskedNames.{names_in}
use Rattle.names.proofs.AskedSteps.{JoinsBut}
use Rattle.names.proofs.asked_names.push_names.Given as goal

abbrev pub invariant-loop-named : goal.invariant-loop-named
invariant-loop-named l =
    JoinsBut (λ named. names_in (named_of named)) (map wanted_of l.names.items) (drop l.named-index l.all)
    (map wanted_of l.fn.names.items ++ flat_map (λ named. names_in (named_of named)) l.all)
