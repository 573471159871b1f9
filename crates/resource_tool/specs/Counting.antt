-- How qualifiers are counted, one number after the other. Contracts within the crate alone speak of this.
use Rattle.std.specs.Prelude.{ℕ, ◌+◌, ◌-◌, ◌^◌, ◌==◌, List, [], ◌∷◌, min, max, slice_index_or, slice_set, replicate, if◌then◌else◌}
use Rattle.std.specs.List.{flat_map}
use Rattle.command_base.specs.cert_tree.config_box.config_record.declared.coord.Coord.{Coord}
use Rattle.command_base.specs.cert_tree.config_box.config_record.Coord.{all_coords, place_of}
use Rattle.resource_tool.specs.NumberSaid.{number_said}
use Rattle.command_base.specs.overlay_map.type_chunks.Row.{RowOf}
use Rattle.command_base.specs.overlay_map.Table.{rows_of}
use Rattle.command_base.specs.overlay_map.Layer.{LayerOf}
use Rattle.resource_tool.specs.declared.survey.qualifiers.Qualifiers.{Qualifiers}
use Rattle.resource_tool.specs.declared.survey.qualifiers.Spread.{Spread}
use Rattle.resource_tool.specs.Qualifiers.{no_spread}

-- with one more number
abbrev pub and_number : Spread → ℕ → Spread
and_number spread n =
    if n == 0 then spread
    else if spread.count == 0 then record { count = 1; least = n; greatest = n }
    else record { count = min (spread.count + 1) (2 ^ 32 - 1); least = min spread.least n; greatest = max spread.greatest n }

abbrev pub spread_in : Qualifiers → Coord → Spread
spread_in qualifiers c = slice_index_or qualifiers.spreads (place_of c) no_spread

abbrev pub no_qualifiers : Qualifiers
no_qualifiers = record { spreads = replicate 25 no_spread }

-- a number of a coordinate
pub record Said : Type 0 where
  pub coord : Coord
  pub number : ℕ

unfoldable pub with_number : Qualifiers → Said → Qualifiers
with_number qualifiers said = record { spreads = slice_set qualifiers.spreads (place_of said.coord) (and_number (spread_in qualifiers said.coord) said.number) }

-- with these numbers more, one after the other
unfoldable pub counted : Qualifiers → List Said → Qualifiers
counted qualifiers [] = qualifiers
counted qualifiers (said ∷ others) = counted (with_number qualifiers said) others

abbrev pub said_at : RowOf → Coord → List Said
said_at row c = record { coord = c; number = number_said row.config c } ∷ []

-- the numbers of a row, one for each coordinate
unfoldable pub said_by : RowOf → List Said
said_by row = flat_map (said_at row) all_coords

abbrev pub said_by_layer : LayerOf → List Said
said_by_layer layer = flat_map said_by (rows_of layer.table)
