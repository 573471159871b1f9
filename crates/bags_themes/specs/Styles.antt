-- Styles, applied one after the other.
use Rattle.std.specs.Prelude.{ℕ, Bool, List, [], ◌∷◌, Result, Ok}
use Rattle.contract_words.specs.Faults.{◌>>=◌}
use Rattle.contract_words.specs.Sequences.{joined_each}
use Rattle.reference_resolver.specs.res_value.declared.res_id.ResId.{ResId}
use Rattle.reference_resolver.specs.overlay_map.Layer.{LayerOf}
use Rattle.bag_rows.specs.declared.bag_row.BagRow.{BagRow}
use Rattle.bags_themes.specs.declared.bag_fault.BagFault.{BagFault}
use Rattle.bags_themes.specs.Bag.{bag_of}
use Rattle.bags_themes.specs.Theme.{AttributeValues, values_after}

-- What attributes have after these styles in their order, with or without force, or why the first style that
-- is no bag, or has too many parents, is refused.
unfoldable pub values_after_styles : List LayerOf → Bool → List ResId → AttributeValues → List ℕ → Result AttributeValues BagFault
values_after_styles stack force [] values d = Ok values
values_after_styles stack force (style ∷ styles) values d = do
  rows ← bag_of stack style.0 d
  values_after_styles stack force styles (values_after force rows values) d

-- The rows of these styles, one style after the other, or why the first without rows is refused. Contracts within the
-- crate alone speak of this.
unfoldable pub rows_of_styles : List LayerOf → List ResId → List ℕ → Result (List BagRow) BagFault
rows_of_styles stack styles d = joined_each (λ style. bag_of stack style.0 d) styles
