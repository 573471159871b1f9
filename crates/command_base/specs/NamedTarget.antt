-- How contracts see the ids of a target with their names. (Cited by contracts of this crate alone.)
use Rattle.std.specs.Prelude.{ℕ, ◌==◌, List, [], ◌∷◌, Option, Some, None, if◌then◌else◌}
use Rattle.std.specs.Cow.{cow_str_bytes}
use Rattle.std.specs.List.{filter_map, zip}
use Rattle.std.specs.Option.{option_map}
use Rattle.command_base.specs.overlay_map.IdMap.{MapOf}
use Rattle.command_base.specs.answer_text.res_value.declared.res_id.ResId.{ResId}
use Rattle.command_base.specs.answer_text.overlay_map.Names.{key_name_in, type_name_in}
use Rattle.command_base.specs.answer_text.overlay_map.Table.{TableOf}
use Rattle.command_base.specs.answer_text.type_chunks.Row.{RowOf}
use Rattle.command_base.specs.names.Names.{NameOf, found_in}
use Rattle.command_base.specs.declared.pairs.NamedTarget.{NamedTarget}
use Rattle.command_base.specs.MadeMap.{package_of_row}
use Rattle.command_base.specs.names.NameText.{name_text}

-- an id with its names
pub record NamedOf : Type 0 where
  pub id : ℕ
  pub name : NameOf

abbrev pub named_seen : NamedTarget → NamedOf
named_seen named = record { id = named.id.0; name = record { type_name = cow_str_bytes named.type_name; entry_name = cow_str_bytes named.entry_name } }

-- where both names are text
abbrev pub named_by : ℕ → Option (List ℕ) → Option (List ℕ) → List NamedOf
named_by id (Some type_name) (Some entry_name) = record { id = id; name = record { type_name = type_name; entry_name = entry_name } } ∷ []
named_by id (Some type_name) None = []
named_by id None entry_name = []

-- the id of a row, if that is of this package and its names are text
unfoldable pub named_in : TableOf → ℕ → RowOf → List NamedOf
named_in target package_id row =
    if package_of_row row == package_id then named_by row.id (name_text (type_name_in target row)) (name_text (key_name_in target row)) else []

abbrev pub own_seen : Option ResId → Option ℕ
own_seen own = option_map (λ id. id.0) own

-- the overlay's id of a name
abbrev pub own_found : TableOf → NamedOf → Option ℕ
own_found overlay named = found_in overlay named.name.type_name named.name.entry_name

-- the pair of an id, where the overlay has one of that name
abbrev pub pair_with : (NamedOf × Option ℕ) → Option (ℕ × ℕ)
pair_with both = option_map (λ own. (both.0.id, own)) both.1

-- the pairs of all ids, each with what was found for it
abbrev pub pairs_with : List NamedOf → List (Option ℕ) → MapOf
pairs_with targets found = filter_map pair_with (zip targets found)
