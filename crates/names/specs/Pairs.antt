-- The labels of two stacks side by side: which of them the old stack alone has, which the new one alone, which both.
use Rattle.std.specs.Prelude.{List, [], ◌++◌, Option, Some, None}
use Rattle.std.specs.BTreeSet.{insert_key}
use Rattle.std.specs.List.{filter_map, fold}
use Rattle.std.specs.Option.{option_map}
use Rattle.overlay_map.specs.Layer.{LayerOf}
use Rattle.overlay_map.specs.res_value.declared.res_id.ResId.{ResId}
use Rattle.names.specs.declared.pair.NamePair.{NamePair}
use Rattle.names.specs.declared.pair.Sides.{Sides}
use Rattle.names.specs.declared.pair.Sides.TheVariants.{Removed, Added, Both}
use Rattle.names.specs.Label.{LabelOf, label_of, label_cmp}
use Rattle.names.specs.StackLabels.{Labelled, first_with, labelled, labels_of}

-- what stands for a label in the old stack and in the new one
abbrev pub sides_of : Option ResId → Option ResId → Option Sides
sides_of (Some old) (Some new) = Some (Both old new)
sides_of (Some old) None = Some (Removed old)
sides_of None (Some new) = Some (Added new)
sides_of None None = None

-- A pair, by its content, not its address.
pub record PairOf : Type 0 where
  pub label : LabelOf
  pub sides : Sides

abbrev pub pair_of : NamePair → PairOf
pair_of pair = record { label = label_of pair.label; sides = pair.sides }

abbrev pub paired : List Labelled → List Labelled → LabelOf → Option PairOf
paired old new label = option_map (λ sides. record { label = label; sides = sides }) (sides_of (first_with old label) (first_with new label))

-- each once, in rising order
abbrev pub rising : List LabelOf → List LabelOf
rising labels = fold (insert_key label_cmp) [] labels

abbrev pub pairs_of : List Labelled → List Labelled → List PairOf
pairs_of old new = filter_map (paired old new) (rising (labels_of old ++ labels_of new))

-- all labels of two stacks
unfoldable pub name_pairs : List LayerOf → List LayerOf → List PairOf
name_pairs old new = pairs_of (labelled old) (labelled new)
