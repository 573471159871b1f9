-- The text of an id map, and what is said of what it leaves out.
use Rattle.std.specs.Prelude.{◌≡◌, ℕ, ◌==◌, ◌&&◌, Bool, List, [], ◌∷◌, ◌++◌, codes, length, Ok}
use Rattle.std.specs.List.{flat_map}
use Rattle.command_base.specs.answer_text.DumpText.{names_text}
use Rattle.command_base.specs.answer_text.res_value.ResId.{id_text}
use Rattle.command_base.specs.answer_text.overlay_map.Table.{TableOf, table_in}
use Rattle.command_base.specs.answer_text.type_chunks.Row.{RowOf}
use Rattle.command_base.specs.overlay_map.IdMap.{MapOf, map_in}
use Rattle.command_base.specs.MadeMap.{AstrayOf, astray, made_map, unmapped}

-- ---- the map

-- `["TARGET","OWN"]`
unfoldable pub pair_text : (ℕ × ℕ) → List ℕ
pair_text pair = codes "[\"" ++ id_text pair.0 ++ codes "\",\"" ++ id_text pair.1 ++ codes "\"]"

-- such a pair behind another, in a line of its own
unfoldable pub next_pair_text : (ℕ × ℕ) → List ℕ
next_pair_text pair = codes "," ++ 10 ∷ codes " " ++ pair_text pair

-- the pairs as a JSON list
unfoldable pub map_text : MapOf → List ℕ
map_text [] = codes "[]" ++ 10 ∷ []
map_text (first ∷ others) = codes "[" ++ pair_text first ++ flat_map next_pair_text others ++ codes "]" ++ 10 ∷ []

-- the map that is read of this text is the one that it was written for
abbrev pub ReadsBack : MapOf → Type 0
ReadsBack made = map_in (map_text made) ≡ Ok made

-- so it is of the map that is made of the tables of these bytes
abbrev pub MadeMapReadsBack : List ℕ → List ℕ → Type 0
MadeMapReadsBack target_bytes overlay_bytes =
    (target overlay : TableOf) → table_in target_bytes ≡ Ok target → table_in overlay_bytes ≡ Ok overlay → ReadsBack (made_map target overlay)

-- ---- what is left out, and what goes astray

-- `ID TYPE/KEY`
unfoldable pub named_text : TableOf → RowOf → List ℕ
named_text table row = id_text row.id ++ codes " " ++ names_text table row

-- the line `unmapped ID TYPE/KEY`, and this before it
unfoldable pub unmapped_line : List ℕ → TableOf → RowOf → List ℕ
unmapped_line before overlay row = before ++ codes "unmapped " ++ named_text overlay row ++ 10 ∷ []

-- the line `astray ID TYPE/KEY to ID TYPE/KEY`, and this before it
unfoldable pub astray_line : List ℕ → TableOf → AstrayOf → List ℕ
astray_line before overlay found = before ++ codes "astray " ++ named_text overlay found.from ++ codes " to " ++ named_text overlay found.to ++ 10 ∷ []

abbrev pub left_lines : List ℕ → TableOf → List RowOf → List AstrayOf → List ℕ
left_lines before overlay rows found = flat_map (unmapped_line before overlay) rows ++ flat_map (astray_line before overlay) found

-- the lines of what a map of the overlay leaves out, and of what goes astray by it, with this before each
abbrev pub lines_with : List ℕ → TableOf → MapOf → List ℕ
lines_with before overlay map = left_lines before overlay (unmapped overlay map) (astray overlay map)

-- the same with nothing before them
abbrev pub lines_of_left : TableOf → MapOf → List ℕ
lines_of_left overlay map = lines_with [] overlay map

-- nothing is left out, and nothing goes astray
abbrev pub is_whole : TableOf → MapOf → Bool
is_whole overlay map = length (unmapped overlay map) == 0 && length (astray overlay map) == 0
