-- What holds of labels, and of the pairs of two stacks.
use Rattle.std.specs.Prelude.{◌≡◌, ℕ, ◌==◌, true, List, map, Option, Some, None, IsSome}
use Rattle.std.specs.List.{All, list_any}
use Rattle.std.specs.List.Sorted.{IsStrictlySortedBy}
use Rattle.names.specs.IdsOfType.{ids_of_type}
use Rattle.overlay_map.specs.Layer.{LayerOf, base_tables}
use Rattle.overlay_map.specs.res_value.declared.res_id.ResId.{ResId}
use Rattle.names.specs.Label.{LabelOf, label_cmp, is_same}
use Rattle.names.specs.StackLabels.{first_with, labelled}
use Rattle.names.specs.IdLabel.{label_of_id}
use Rattle.names.specs.Pairs.{PairOf, sides_of}

-- the id that a label stands for in a stack
abbrev pub id_of : List LayerOf → LabelOf → Option ResId
id_of layers label = first_with (labelled layers) label

-- each id of the rows of a stack's base layers has a label
abbrev pub EachHasLabel : List LayerOf → Type 0
EachHasLabel layers =
    (id : ResId) → list_any (λ other. other.0 == id.0) (ids_of_type None (base_tables layers)) ≡ true → (label : LabelOf) × (id_of layers label ≡ Some id)

-- some pairs are the labels of two stacks, side by side
pub record AreSideBySide (old new : List LayerOf) (pairs : List PairOf) : Type 0 where
  -- each label once, in rising order
  pub rising : IsStrictlySortedBy label_cmp (map (λ pair. pair.label) pairs)
  -- each with what it stands for in the old stack, in the new one, or in both
  pub right : All (λ pair. sides_of (id_of old pair.label) (id_of new pair.label) ≡ Some pair.sides) pairs
  -- and a label that stands for something is not left out
  pub whole : (label : LabelOf) → IsSome (sides_of (id_of old label) (id_of new label)) → list_any (λ pair. is_same label pair.label) pairs ≡ true
  -- and no resource is lost
  pub old_ids : EachHasLabel old
  pub new_ids : EachHasLabel new

-- what is called the same in a stack is one id
abbrev pub LabelTellsId : Type 0
LabelTellsId = (layers : List LayerOf) (id other : ℕ) → label_of_id layers id ≡ label_of_id layers other → id ≡ other
