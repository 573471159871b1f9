-- The qualifiers that rows have.
use Rattle.std.specs.Prelude.{ℕ, ◌-◌, ◌^◌, ◌==◌, not, List, [], ◌∷◌, filter, map, length, min, max}
use Rattle.std.specs.List.{flat_map}
use Rattle.command_base.specs.cert_tree.config_box.config_record.declared.coord.Coord.{Coord}
use Rattle.resource_tool.specs.NumberSaid.{number_said}
use Rattle.command_base.specs.overlay_map.type_chunks.Row.{RowOf}
use Rattle.command_base.specs.overlay_map.Table.{rows_of}
use Rattle.command_base.specs.overlay_map.Layer.{LayerOf}
use Rattle.resource_tool.specs.declared.survey.qualifiers.Spread.{Spread}

-- the rows of all layers
unfoldable pub rows_in_stack : List LayerOf → List RowOf
rows_in_stack stack = flat_map (λ layer. rows_of layer.table) stack

-- the numbers that rows have at a coordinate; 0 says nothing
unfoldable pub numbers_at : Coord → List RowOf → List ℕ
numbers_at c rows = filter (λ n. not (n == 0)) (map (λ row. number_said row.config c) rows)

-- the least of a number and others
abbrev pub least_of : ℕ → List ℕ → ℕ
least_of least [] = least
least_of least (n ∷ ns) = least_of (min least n) ns

-- the greatest of a number and others
abbrev pub greatest_of : ℕ → List ℕ → ℕ
greatest_of greatest [] = greatest
greatest_of greatest (n ∷ ns) = greatest_of (max greatest n) ns

abbrev pub no_spread : Spread
no_spread = record { count = 0; least = 0; greatest = 0 }

-- how many numbers these are, the least and the greatest of them; 4294967295 are as many and more
unfoldable pub spread_of : List ℕ → Spread
spread_of [] = no_spread
spread_of (n ∷ ns) = record { count = min (length (n ∷ ns)) (2 ^ 32 - 1); least = least_of n ns; greatest = greatest_of n ns }
