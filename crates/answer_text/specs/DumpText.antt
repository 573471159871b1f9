-- The packages of a table and their rows as text, with names.
use Rattle.std.specs.Prelude.{ℕ, List, [], ◌∷◌, ◌++◌, codes, Some}
use Rattle.std.specs.List.{flat_map}
use Rattle.hex.specs.Hex.{encode_lower}
use Rattle.bags_themes.specs.string_pool.Pool.{PoolOf}
use Rattle.bags_themes.specs.string_pool.Shown.{shown_text, string_text}
use Rattle.bags_themes.specs.res_value.ResId.{id_text}
use Rattle.bags_themes.specs.res_value.Word.{word_text}
use Rattle.bags_themes.specs.type_chunks.Row.{RowOf}
use Rattle.bags_themes.specs.overlay_map.Package.{PackageOf}
use Rattle.bags_themes.specs.overlay_map.Table.{TableOf}
use Rattle.bags_themes.specs.overlay_map.Names.{type_name_in, key_name_in}
use Rattle.answer_text.specs.CellText.{RowFormatOf, row_end_text}

-- four spaces before the lines of a bag, and these strings
unfoldable pub dump_format : PoolOf → RowFormatOf
dump_format strings = record { indent = codes "    "; strings = Some strings }

-- the line `package 0xKK NAME`
unfoldable pub package_line : PackageOf → List ℕ
package_line owner =
    codes "package 0x" ++ encode_lower (owner.header.id ∷ []) ++ codes " " ++ shown_text owner.header.name ++ 10 ∷ []

-- `TYPE/KEY`
unfoldable pub names_text : TableOf → RowOf → List ℕ
names_text table row = string_text (type_name_in table row) ++ codes "/" ++ string_text (key_name_in table row)

-- ` flags FLAGS`
unfoldable pub flags_text : ℕ → List ℕ
flags_text flags = codes " flags " ++ word_text flags

-- the line `  ID TYPE/KEY flags FLAGS RECORD VALUE`, and those of a bag
unfoldable pub row_text : TableOf → RowOf → List ℕ
row_text table row =
    codes "  " ++ id_text row.id ++ codes " " ++ names_text table row ++ flags_text row.flags ++ codes " "
    ++ row_end_text (dump_format table.strings) row

-- the line of a package, and those of its rows in their order
unfoldable pub package_text : TableOf → PackageOf → List ℕ
package_text table owner = package_line owner ++ flat_map (row_text table) owner.rows

-- the packages of a table, in the order of the file
unfoldable pub dump_text : TableOf → List ℕ
dump_text table = flat_map (package_text table) table.packages
