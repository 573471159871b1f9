-- What tells the rows of a bag apart, and their order.
use Rattle.std.specs.Prelude.{ℕ, Bool, false, ◌==◌, List, codes, Option, Some, None, Result, Ok, Err, if◌then◌else◌}
use Rattle.std.specs.Option.{option_map_or}
use Rattle.std.specs.Ordering.{is_lt, nat_cmp}
use Rattle.std.specs.declared.cmp.Ordering.{Ordering}
use Rattle.std.specs.declared.cmp.Ordering.TheVariants.{Less, Greater}
use Rattle.bags_themes.specs.string_pool.Text.{TextOf, is_text_of}
use Rattle.bags_themes.specs.string_pool.string_bytes.declared.fault.StringFault.{StringFault}
use Rattle.bags_themes.specs.overlay_map.BaseRow.{first_base_row}
use Rattle.bags_themes.specs.overlay_map.Layer.{LayerOf}
use Rattle.bags_themes.specs.overlay_map.Names.{type_name_in}
use Rattle.names.specs.IdLabel.{label_of_id}
use Rattle.names.specs.Label.{label_cmp}
use Rattle.answer_text.specs.declared.content.Quantity.{Quantity}
use Rattle.answer_text.specs.declared.content.Quantity.TheVariants.{Other, Zero, One, Two, Few, Many}
use Rattle.answer_text.specs.declared.row_key.Keys.{Keys}
use Rattle.answer_text.specs.declared.row_key.Keys.TheVariants.{Places, Quantities, Names}
use Rattle.answer_text.specs.InOrder.{in_order}
use Rattle.answer_text.specs.Content.{RowKeyOf, PlaceOf, QuantityOf, CalledOf, RowContentOf}

-- ---- the types of bags

abbrev pub is_name : List ℕ → Result TextOf StringFault → Bool
is_name name (Ok text) = is_text_of text name
is_name name (Err fault) = false

-- whether the type of an id is called so, in the first row that the id has in a base layer
unfoldable pub has_type : List ℕ → List LayerOf → ℕ → Bool
has_type name stack id = option_map_or (λ found. is_name name (type_name_in found.table found.row)) (first_base_row stack id) false

-- ---- keys

-- the quantity of an id (AOSP: ResTable_map::ATTR_OTHER, ATTR_ZERO, ATTR_ONE, ATTR_TWO, ATTR_FEW, ATTR_MANY)
unfoldable pub quantity_of : ℕ → Option Quantity
quantity_of id =
    if id == 0x01000004 then Some Other
    else if id == 0x01000005 then Some Zero
    else if id == 0x01000006 then Some One
    else if id == 0x01000007 then Some Two
    else if id == 0x01000008 then Some Few
    else if id == 0x01000009 then Some Many
    else None

abbrev pub quantity_or_called : List LayerOf → ℕ → Option Quantity → RowKeyOf
quantity_or_called stack id (Some quantity) = QuantityOf quantity
quantity_or_called stack id None = CalledOf (label_of_id stack id)

-- by what the rows of a bag are told apart that an id selects: its type says it
unfoldable pub keys_of : List LayerOf → ℕ → Keys
keys_of stack id =
    if has_type (codes "array") stack id then Places
    else if has_type (codes "plurals") stack id then Quantities
    else Names

-- the key of the row that has a name and a place
unfoldable pub row_key : List LayerOf → Keys → ℕ → ℕ → RowKeyOf
row_key stack Places place name = PlaceOf place
row_key stack Quantities place name = quantity_or_called stack name (quantity_of name)
row_key stack Names place name = CalledOf (label_of_id stack name)

-- ---- their order

abbrev pub rank_of : Quantity → ℕ
rank_of Other = 0
rank_of Zero = 1
rank_of One = 2
rank_of Two = 3
rank_of Few = 4
rank_of Many = 5

-- places stand first, then quantities, then labels
abbrev pub key_cmp : RowKeyOf → RowKeyOf → Ordering
key_cmp (PlaceOf a) (PlaceOf b) = nat_cmp a b
key_cmp (PlaceOf a) (QuantityOf b) = Less
key_cmp (PlaceOf a) (CalledOf b) = Less
key_cmp (QuantityOf a) (PlaceOf b) = Greater
key_cmp (QuantityOf a) (QuantityOf b) = nat_cmp (rank_of a) (rank_of b)
key_cmp (QuantityOf a) (CalledOf b) = Less
key_cmp (CalledOf a) (PlaceOf b) = Greater
key_cmp (CalledOf a) (QuantityOf b) = Greater
key_cmp (CalledOf a) (CalledOf b) = label_cmp a b

abbrev pub is_before : RowContentOf → RowContentOf → Bool
is_before row other = is_lt (key_cmp row.key other.key)

unfoldable pub by_key : List RowContentOf → List RowContentOf
by_key rows = in_order is_before rows
