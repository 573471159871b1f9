use Rattle.std.proofs.Common.{List, ◌++◌, map, drop}
use Rattle.std.specs.List.{flat_map}
use Rattle.json_input.proofs.EachSteps.{EachAllBut}
use Rattle.overlay_map.specs.Layer.{LayerOf}
use Rattle.names.specs.Names.{WantedOf}
use Rattle.names.specs.Named.{named_of}
use Rattle.names.specs.NamedIds.{id_named}
use Rattle.names.specs.AskedNames.{names_in}
use Rattle.names.specs.Finder.{Tells}
use Rattle.names.proofs.finder.Finder.each_id.Given as goal

abbrev pub invariant-loop-named : goal.invariant-loop-named
invariant-loop-named l = (layers : List LayerOf) (names : List WantedOf)
    → Tells layers (flat_map (λ named. names_in (named_of named)) l.all ++ names) l.fn.self
    → Tells layers (flat_map (λ named. names_in (named_of named)) (drop l.named-index l.all) ++ names) l.self
    × EachAllBut (id_named layers) l.ids.items l.named-index (map named_of l.all)
