-- The id map of an overlay, and what it leaves out, as lines of JSON. An object is told member by member; they stand in it in the order
-- of their names' bytes.
use Rattle.std.specs.Prelude.{ℕ, List, ◌++◌, codes, Option, Some, None}
use Rattle.std.specs.List.{flat_map}
use Rattle.serde_json.specs.Data.{object, Members, no_members, put as with_member}
use Rattle.command_base.specs.FirstRows.{first_row}
use Rattle.command_base.specs.MadeMap.{AstrayOf, astray, unmapped}
use Rattle.command_base.specs.answer_text.overlay_map.Names.{type_name_in, key_name_in}
use Rattle.command_base.specs.answer_text.overlay_map.Table.{TableOf, rows_of}
use Rattle.command_base.specs.answer_text.res_value.ResId.{id_text}
use Rattle.command_base.specs.answer_text.type_chunks.Row.{RowOf}
use Rattle.command_base.specs.names.NameText.{name_text}
use Rattle.command_base.specs.overlay_map.IdMap.{MapOf}
use Rattle.resource_text.specs.LineJson.{line_members, line_json}
use Rattle.resource_text.specs.TextJson.{text_data}

-- ---- a row of the overlay

-- `TYPE/ENTRY`, where both names are text
abbrev pub with_names : Option (List ℕ) → Option (List ℕ) → Members → Members
with_names (Some type_name) (Some entry_name) others = with_member (codes "name") (text_data (type_name ++ codes "/" ++ entry_name)) others
with_names (Some type_name) None others = others
with_names None entry_name others = others

unfoldable pub with_name : TableOf → RowOf → Members → Members
with_name overlay row others = with_names (name_text (type_name_in overlay row)) (name_text (key_name_in overlay row)) others

-- its id, and that name
unfoldable pub with_row : TableOf → RowOf → Members → Members
with_row overlay row others = with_name overlay row (with_member (codes "id") (text_data (id_text row.id)) others)

-- ---- the lines

-- the name of the first row of an id, where there is one
abbrev pub with_first : TableOf → Option RowOf → Members → Members
with_first overlay (Some row) others = with_name overlay row others
with_first overlay None others = others

-- an id of the target, and the overlay's id that stands for it
unfoldable pub pair_json : TableOf → (ℕ × ℕ) → List ℕ
pair_json overlay pair =
    line_json (with_first overlay (first_row (rows_of overlay) pair.1) (with_member (codes "own") (text_data (id_text pair.1))
    (with_member (codes "target") (text_data (id_text pair.0)) (line_members (codes "pair")))))

-- an id of the overlay that stands for no target
unfoldable pub unmapped_json : TableOf → RowOf → List ℕ
unmapped_json overlay row = line_json (with_row overlay row (line_members (codes "unmapped")))

-- a reference that goes astray
unfoldable pub astray_json : TableOf → AstrayOf → List ℕ
astray_json overlay found =
    line_json (with_member (codes "to") (object (with_row overlay found.to no_members))
    (with_member (codes "from") (object (with_row overlay found.from no_members)) (line_members (codes "astray"))))

-- a line for each pair, for each id that the map leaves out, and for each reference that goes astray by it
unfoldable pub map_json : TableOf → MapOf → List ℕ
map_json overlay made =
    flat_map (pair_json overlay) made ++ (flat_map (unmapped_json overlay) (unmapped overlay made) ++ flat_map (astray_json overlay) (astray overlay made))
