-- The ids that are looked up for a bag: its own, and those of its parents.
use Rattle.std.specs.Prelude.{ℕ, zero, suc, ◌==◌, List, [], ◌∷◌, Option, Some, None, Result, Ok, Err, if◌then◌else◌}
use Rattle.reference_resolver.specs.res_value.declared.res_id.ResId.{ResId}
use Rattle.reference_resolver.specs.overlay_map.Layer.{LayerOf}
use Rattle.reference_resolver.specs.Selection.{selected}
use Rattle.bags_themes.specs.declared.bag_fault.BagFault.{BagFault}
use Rattle.bags_themes.specs.Bag.{FoundBagOf, bag_in}

-- how many bags a chain has, at most: a bag and its parents
abbrev pub most_bags : ℕ
most_bags = 65

-- Those after a look-up that found this, where so many bags may still be found, this one among them: the id of the
-- parent, unless it is 0, and those after it.
unfoldable pub ids_after : List LayerOf → ℕ → Result FoundBagOf BagFault → List ℕ → List ℕ
ids_after stack zero found d = []
ids_after stack (suc left) (Err fault) d = []
ids_after stack (suc left) (Ok bag) d =
    if bag.parent == 0 then [] else bag.parent ∷ ids_after stack left (bag_in (selected stack bag.parent d)) d

-- an id, and those after it
abbrev pub ids_from : List LayerOf → ℕ → ℕ → List ℕ → List ℕ
ids_from stack left id d = id ∷ ids_after stack left (bag_in (selected stack id d)) d

-- All of them, in their order. Of a chain that is too long the last is the one that its 64th parent names.
abbrev pub bag_ids : List LayerOf → ℕ → List ℕ → List ℕ
bag_ids stack id d = ids_from stack most_bags id d

-- those that are left where this one comes next, if any
abbrev pub ids_at : List LayerOf → ℕ → Option ResId → List ℕ → List ℕ
ids_at stack left None d = []
ids_at stack left (Some id) d = ids_from stack left id.0 d
