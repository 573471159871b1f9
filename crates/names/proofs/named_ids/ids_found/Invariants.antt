use Rattle.std.proofs.Common.{List, map, drop}
use Rattle.std.specs.List.{flat_map}
use Rattle.contract_words.proofs.SequenceSteps.{ReadsAllBut}
use Rattle.overlay_map.specs.Layer.{LayerOf}
use Rattle.names.specs.NamedSet.{named_set_of}
use Rattle.names.specs.NamedIds.{ids_of_set, ids_named}
use Rattle.names.specs.AskedNames.{names_in_set}
use Rattle.names.specs.Finder.{Tells}
use Rattle.names.proofs.named_ids.ids_found.Given as goal

abbrev pub invariant-loop-set : goal.invariant-loop-set
invariant-loop-set l = (layers : List LayerOf) → Tells layers (flat_map (λ set. names_in_set (named_set_of set)) l.sets) l.fn.finder
    → Tells layers (flat_map (λ set. names_in_set (named_set_of set)) (drop l.set-index l.sets)) l.finder
    × ReadsAllBut (ids_of_set layers) l.all.items (map named_set_of (drop l.set-index l.sets)) (ids_named layers (map named_set_of l.sets))
