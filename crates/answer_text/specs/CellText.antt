-- What rows hold, as text.
use Rattle.std.specs.Prelude.{ℕ, List, [], ◌∷◌, ◌++◌, codes, length, Option, Some, None, ◌==◌, if◌then◌else◌}
use Rattle.std.specs.List.{flat_map}
use Rattle.std.specs.Option.{option_map}
use Rattle.std.specs.Fmt.{decimal}
use Rattle.bags_themes.specs.string_pool.Pool.{PoolOf, pool_of}
use Rattle.bags_themes.specs.string_pool.Text.{text_in}
use Rattle.bags_themes.specs.string_pool.Shown.{string_text}
use Rattle.bags_themes.specs.res_value.Cell.{CellOf, PlainOf, BagOf}
use Rattle.bags_themes.specs.res_value.Kind.{string_kind}
use Rattle.bags_themes.specs.res_value.declared.res_id.ResId.{ResId}
use Rattle.bags_themes.specs.res_value.declared.value.Value.{Value}
use Rattle.bags_themes.specs.res_value.ResId.{id_text}
use Rattle.bags_themes.specs.res_value.ValueText.{value_text}
use Rattle.bags_themes.specs.config_record.Qualifiers.{record_text}
use Rattle.bags_themes.specs.type_chunks.Row.{RowOf}
use Rattle.answer_text.specs.NamedText.{named_id}
use Rattle.answer_text.specs.declared.cell.RowFormat.{RowFormat}

-- In what two texts of the same rows differ: what stands before each line of a row of a bag, and the
-- strings that string values name. Without strings a value stands by itself.
pub record RowFormatOf : Type 0 where
  pub indent : List ℕ
  pub strings : Option PoolOf

abbrev pub format_of : RowFormat → RowFormatOf
format_of format = record { indent = format.indent.now; strings = option_map pool_of format.strings }

-- behind a string value the string of its word
unfoldable pub string_behind : PoolOf → Value → List ℕ
string_behind strings value = if value.kind == string_kind then codes " " ++ string_text (text_in strings value.word) else []

unfoldable pub value_with_string : Option PoolOf → Value → List ℕ
value_with_string None value = value_text value
value_with_string (Some strings) value = value_text value ++ string_behind strings value

-- `bag parent ID count N`
unfoldable pub bag_text : ℕ → ℕ → List ℕ
bag_text parent count = codes "bag " ++ named_id (codes "parent") parent ++ codes " count " ++ decimal count

-- what an entry holds, in the line of its row: a value, or a bag with its count of rows
unfoldable pub cell_text : RowFormatOf → CellOf → List ℕ
cell_text format (PlainOf value) = value_with_string format.strings value
cell_text format (BagOf parent rows) = bag_text parent.0 (length rows)

-- the line `NAME VALUE` of a row of a bag, behind the indent
unfoldable pub map_row_text : RowFormatOf → (ResId × Value) → List ℕ
map_row_text format row = format.indent ++ id_text row.0.0 ++ codes " " ++ value_with_string format.strings row.1 ++ 10 ∷ []

-- the lines of a bag's rows
unfoldable pub map_rows_text : RowFormatOf → CellOf → List ℕ
map_rows_text format (PlainOf value) = []
map_rows_text format (BagOf parent rows) = flat_map (map_row_text format) rows

-- how the line of a row ends, `RECORD VALUE`, and the lines of a bag
unfoldable pub row_end_text : RowFormatOf → RowOf → List ℕ
row_end_text format row =
    record_text row.config ++ codes " " ++ cell_text format row.cell ++ 10 ∷ [] ++ map_rows_text format row.cell
