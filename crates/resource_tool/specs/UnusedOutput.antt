-- What the command `unused` prints.
use Rattle.std.specs.Prelude.{ℕ, ◌+◌, ◌*◌, Bool, List, [], ◌∷◌, ◌++◌, fold, length, Option, Some, None, codes, nat_lt}
use Rattle.std.specs.Fmt.{decimal}
use Rattle.std.specs.List.{enumerate_from, flat_map, zip}
use Rattle.std.specs.Option.{is_some, option_map_or}
use Rattle.resource_text.specs.Naming.{NamingOf, id_notation}
use Rattle.resource_text.specs.RowJson.{row_json}
use Rattle.resource_text.specs.TableNotation.{row_end_notation}
use Rattle.resource_text.specs.declared.line_form.LineForm.{LineForm}
use Rattle.resource_text.specs.declared.line_form.LineForm.TheVariants.{Text, Json}
use Rattle.answer_text.specs.LayerText.{layer_text}
use Rattle.answer_text.specs.overlay_map.Table.{rows_of}
use Rattle.answer_text.specs.type_chunks.Row.{RowOf}
use Rattle.command_base.specs.Output.{Output, negative_if}
use Rattle.command_base.specs.overlay_map.Layer.{LayerOf, by_itself}
use Rattle.command_base.specs.declared.status.Status.TheVariants.{Negative}
use Rattle.res_value.specs.Cell.{CellOf, PlainOf, BagOf}
use Rattle.stack_diff.specs.declared.row_use.RowUse.{RowUse}
use Rattle.stack_diff.specs.declared.row_use.RowUse.TheVariants.{Loaded, Overlaid, Unused, Unmapped}
use Rattle.resource_tool.specs.DiffOutput.{node_limit_line}
use Rattle.resource_tool.specs.declared.unused_rows.ToldLayer.{ToldLayer}
use Rattle.resource_tool.specs.declared.unused_rows.Totals.{Totals}

-- ---- rows

-- a row, and what becomes of it, none where it is not asked for
abbrev pub UsedRow : Type 0
UsedRow = RowOf × Option RowUse

-- what becomes of the rows of a table
abbrev pub Uses : Type 0
Uses = List (Option RowUse)

-- the rows of a layer, each with what becomes of it
abbrev pub used_rows : LayerOf × Uses → List UsedRow
used_rows (layer, uses) = zip (rows_of layer.table) uses

-- ---- lines

-- `WORD layer L NAME CONFIG VALUE`, and the lines of a bag
unfoldable pub row_line : NamingOf → ℕ → List ℕ → RowOf → List ℕ
row_line naming place word row =
    word ++ codes " " ++ layer_text place ++ codes " " ++ id_notation naming row.id ++ codes " " ++ row_end_notation naming (codes "  ") row

-- the lines of a row in a form
abbrev pub row_in : LineForm → NamingOf → ToldLayer → List ℕ → RowOf → List ℕ
row_in (Text form) naming layer word row = row_line naming layer.place word row
row_in Json naming layer word row = row_json naming layer.place layer.overlay word row

-- the word for what becomes of a row; none where it is loaded or not asked for
abbrev pub word_of : Option RowUse → Option (List ℕ)
word_of (Some Overlaid) = Some (codes "overlaid")
word_of (Some Unused) = Some (codes "unused")
word_of (Some Unmapped) = Some (codes "unmapped")
word_of (Some Loaded) = None
word_of None = None

-- the lines of a row that has such a word
unfoldable pub use_lines : NamingOf → ToldLayer → UsedRow → List ℕ
use_lines naming layer (row, row_use) = option_map_or (λ word. row_in layer.form naming layer word row) (word_of row_use) []

abbrev pub is_overlay : LayerOf → Bool
is_overlay layer = is_some layer.map

-- those of a layer, by the names of its own table, where the tables of the layers lie at these paths
abbrev pub layer_lines : LineForm → List (List ℕ) → ℕ × (LayerOf × Uses) → List ℕ
layer_lines form paths (place, used) =
    flat_map (use_lines (record { stack = by_itself used.0; paths = paths }) (record { form = form; place = place; overlay = is_overlay used.0 })) (used_rows used)

-- ---- totals

-- the bytes of an entry: of a value (AOSP: ResTable_entry, Res_value), or of a bag (ResTable_map_entry, and a ResTable_map for each
-- of its rows)
abbrev pub entry_size : CellOf → ℕ
entry_size (PlainOf value) = 16
entry_size (BagOf parent rows) = 16 + 12 * length rows

-- with one row more; of those that are unused the bytes are counted too
unfoldable pub with_row : Totals → UsedRow → Totals
with_row totals (row, Some Loaded) = record totals { loaded = totals.loaded + 1 }
with_row totals (row, Some Overlaid) = record totals { overlaid = totals.overlaid + 1 }
with_row totals (row, Some Unused) = record totals { unused = totals.unused + 1; bytes = totals.bytes + entry_size row.cell }
with_row totals (row, Some Unmapped) = record totals { unmapped = totals.unmapped + 1 }
with_row totals (row, None) = totals

abbrev pub no_rows : Totals
no_rows = record { loaded = 0; overlaid = 0; unused = 0; unmapped = 0; bytes = 0 }

-- all rows that were asked for
abbrev pub row_count : Totals → ℕ
row_count totals = totals.loaded + totals.unused + totals.overlaid + totals.unmapped

-- the last line
unfoldable pub totals_line : LineForm → Totals → List ℕ
totals_line (Text form) totals =
    codes "rows " ++ decimal (row_count totals) ++ codes " unused " ++ decimal totals.unused ++ codes " overlaid " ++ decimal totals.overlaid
    ++ codes " unmapped " ++ decimal totals.unmapped ++ codes " bytes " ++ decimal totals.bytes ++ 10 ∷ []
totals_line Json totals =
    codes "{\"bytes\":" ++ decimal totals.bytes ++ codes ",\"count\":" ++ decimal (row_count totals) ++ codes ",\"line\":\"rows\",\"overlaid\":" ++ decimal totals.overlaid
    ++ codes ",\"unmapped\":" ++ decimal totals.unmapped ++ codes ",\"unused\":" ++ decimal totals.unused ++ codes "}" ++ 10 ∷ []

-- ---- the output

-- the totals of all layers
abbrev pub totals_of : List LayerOf → List Uses → Totals
totals_of stack uses = fold with_row no_rows (flat_map used_rows (zip stack uses))

-- In a form, where the tables of the layers lie at these paths: the lines of all layers, and the last one; or that of the limit.
abbrev pub unused_output : LineForm → List (List ℕ) → List LayerOf → Option (List Uses) → Output
unused_output form paths stack (Some uses) = record {
  status = negative_if (nat_lt 0 (totals_of stack uses).unused);
  text = flat_map (layer_lines form paths) (enumerate_from 0 (zip stack uses)) ++ totals_line form (totals_of stack uses);
}
unused_output form paths stack None = record { status = Negative; text = node_limit_line form }
