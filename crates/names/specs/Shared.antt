-- Ids whose names stand for other ids, as where names are shortened.
use Rattle.std.specs.Prelude.{ℕ, List, [], ◌∷◌, length, Option, Some, None, if◌then◌else◌}
use Rattle.std.specs.List.{flat_map}
use Rattle.names.specs.IdsOfType.{put_each}
use Rattle.overlay_map.specs.Layer.{LayerOf}
use Rattle.overlay_map.specs.res_value.declared.res_id.ResId.{ResId}
use Rattle.names.specs.declared.shared.SharedNames.{SharedNames}
use Rattle.names.specs.Label.{LabelOf}
use Rattle.names.specs.StackLabels.{Labelled, first_with, is_id, names_in}

-- an id with a name that stands for another one, where this is what labels stand for
abbrev pub if_shared : (LabelOf → Option ResId) → Labelled → List ℕ
if_shared stands one = if is_id one.id (stands one.label) then [] else one.id.0 ∷ []

-- the ids of a stack's base layers that have such a name, each once, in rising order
unfoldable pub shared_ids : List LayerOf → List ℕ
shared_ids layers = put_each [] (flat_map (if_shared (first_with (names_in layers))) (names_in layers))

-- how many these are, and the first of them
abbrev pub shared_of : List ℕ → Option SharedNames
shared_of [] = None
shared_of (first ∷ others) = Some (record { count = length (first ∷ others); first = record { 0 = first } })
