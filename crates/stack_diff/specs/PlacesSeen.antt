-- How contracts see the places of ids. (Cited by contracts of this crate alone.)
use Rattle.std.specs.Prelude.{◌≡◌, ◌==◌, ℕ, Bool, IsTrue, List, [], is_some}
use Rattle.std.specs.List.{list_any}
use Rattle.std.specs.BTreeMap.{get}
use Rattle.std.specs.Option.{option_map_or}
use Rattle.std.specs.Ordering.{nat_cmp}
use Rattle.reference_resolver.specs.type_chunks.Row.{RowOf}
use Rattle.reference_resolver.specs.res_value.declared.res_id.ResId.{ResId}
use Rattle.stack_diff.specs.declared.places.Places.{Places}
use Rattle.stack_diff.specs.RowPlaces.{places_with_id}

-- the places that stand for an id
abbrev pub places_at : Places → ℕ → List ℕ
places_at places id = option_map_or (λ found. found.items) (get nat_cmp places.by_id id) []

-- of each id they are those of its rows
abbrev pub ArePlacesOf : List RowOf → Places → Type 0
ArePlacesOf rows places = (id : ℕ) → places_at places id ≡ places_with_id id 0 rows

-- an id is one of these
abbrev pub is_among : List ResId → ℕ → Bool
is_among ids id = list_any (λ other. other.0 == id) ids

-- each id that has places is listed
abbrev pub ListsIds : Places → Type 0
ListsIds places = (id : ℕ) → IsTrue (is_some (get nat_cmp places.by_id id)) → IsTrue (is_among places.ids.items id)

-- the id of a number
abbrev pub id_of : ℕ → ResId
id_of number = record { 0 = number }
