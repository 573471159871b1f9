-- What a resource says at a device, which is the list of its numbers.
use Rattle.std.specs.Prelude.{ℕ, ◌+◌, List, [], ◌∷◌, Result, Ok, Err}
use Rattle.bags_themes.specs.overlay_map.Layer.{LayerOf}
use Rattle.bags_themes.specs.reference_resolver.declared.end.End.{End}
use Rattle.bags_themes.specs.reference_resolver.declared.end.End.TheVariants as of_end
use Rattle.bags_themes.specs.reference_resolver.Ends.{references_followed, end_of}
use Rattle.bags_themes.specs.bag_rows.declared.bag_row.BagRow.{BagRow}
use Rattle.bags_themes.specs.declared.bag_fault.BagFault.{BagFault}
use Rattle.bags_themes.specs.Bag.{bag_of}
use Rattle.names.specs.IdLabel.{label_of_id}
use Rattle.answer_text.specs.declared.row_key.Keys.{Keys}
use Rattle.answer_text.specs.Content.{RowContentOf, ContentOf, ValueOf, BagOf, AbsentOf, TooManyReferencesOf, TooManyParentsOf}
use Rattle.answer_text.specs.ValueContent.{value_content}
use Rattle.answer_text.specs.RowKeys.{keys_of, row_key, by_key}

-- the row at a place of a bag: its key, and what its value says
abbrev pub row_content : List LayerOf → Keys → ℕ → BagRow → RowContentOf
row_content stack keys place row = record { key = row_key stack keys place row.name.0; value = value_content stack row.layer row.value }

-- those from a place on
unfoldable pub rows_content : List LayerOf → Keys → ℕ → List BagRow → List RowContentOf
rows_content stack keys place [] = []
rows_content stack keys place (row ∷ rows) = row_content stack keys place row ∷ rows_content stack keys (place + 1) rows

-- The rows of a bag, by their keys. Of an id that selects a bag nothing else can be wrong.
abbrev pub bag_content : List LayerOf → ℕ → Result (List BagRow) BagFault → ContentOf
bag_content stack id (Ok rows) = BagOf (by_key (rows_content stack (keys_of stack id) 0 rows))
bag_content stack id (Err fault) = TooManyParentsOf (label_of_id stack id)

-- what stands at an end
abbrev pub end_content : List LayerOf → End → List ℕ → ContentOf
end_content stack (of_end.Value layer value) d = ValueOf (value_content stack layer value)
end_content stack (of_end.Bag id) d = bag_content stack id.0 (bag_of stack id.0 d)
end_content stack (of_end.Absent id) d = AbsentOf (label_of_id stack id.0)
end_content stack (of_end.TooLong id) d = TooManyReferencesOf (label_of_id stack id.0)

-- the content of an id: what stands where its references end
unfoldable pub content_at : List LayerOf → ℕ → List ℕ → ContentOf
content_at stack id d = end_content stack (end_of stack references_followed id d) d
