-- Id maps: which id of an overlay stands for an id of the stack.
use Rattle.std.specs.Prelude.{ℕ, not, List, [], ◌∷◌, map, ◌==◌, Option, Some, None, option_and_then, ok_or, Result, Ok, if◌then◌else◌}
use Rattle.std.specs.List.{list_any}
use Rattle.contract_words.specs.Faults.{◌>>=◌, refuse}
use Rattle.contract_words.specs.Sequences.{joined_each, with_before}
use Rattle.serde_json.specs.Data.{Data}
use Rattle.json_input.specs.Each.{list_of, each}
use Rattle.json_input.specs.Json.{value_of}
use Rattle.json_input.specs.Shape.{text_of}
use Rattle.type_chunks.specs.res_value.declared.res_id.ResId.{ResId}
use Rattle.type_chunks.specs.res_value.ResId.{id_of, package_of}
use Rattle.overlay_map.specs.declared.map_fault.MapFault.{MapFault}
use Rattle.overlay_map.specs.declared.map_fault.MapFault.TheVariants.{Syntax, Shape, Repeated, OtherPackage}

-- pairs of a target and the overlay's id that stands for it, in the order of the text; no target twice
abbrev pub MapOf : Type 0
MapOf = List (ℕ × ℕ)

-- the id that stands for a target, none where the map has no such target
unfoldable pub look_of : MapOf → ℕ → Option ℕ
look_of [] target = None
look_of (pair ∷ pairs) target = if pair.0 == target then Some pair.1 else look_of pairs target

-- its targets
abbrev pub targets_in : MapOf → List ℕ
targets_in map_of = map (λ pair. pair.0) map_of

-- a target and the overlay's id, as ids
abbrev pub IdPair : Type 0
IdPair = ResId × ResId

-- the numbers of pairs
abbrev pub pairs_of : List IdPair → MapOf
pairs_of pairs = map (λ pair. (pair.0.0, pair.1.0)) pairs

-- those of their targets
abbrev pub targets_of : List IdPair → List ℕ
targets_of pairs = map (λ pair. pair.0.0) pairs

-- ---- the shape: a list of pairs of ids

-- the id of a value: that of a text which spells one
abbrev pub id_in : Data → Option ResId
id_in value = option_and_then id_of (text_of value)

abbrev pub both : Option ResId → Option ResId → Option IdPair
both (Some target) (Some own) = Some (target, own)
both (Some target) None = None
both None own = None

abbrev pub pair_of_items : List Data → Option IdPair
pair_of_items (target ∷ own ∷ []) = both (id_in target) (id_in own)
pair_of_items _ = None

-- a list of two ids
abbrev pub pair_in : Data → Option IdPair
pair_in value = option_and_then pair_of_items (list_of value)

abbrev pub pair_item : Data → Result IdPair MapFault
pair_item value = ok_or (pair_in value) Shape

-- each item of the list is a pair
unfoldable pub pairs_in : Data → Result (List IdPair) MapFault
pairs_in value = ok_or (list_of value) Shape >>= each pair_item

-- of a text, or its first fault: that of the text, or of the shape
abbrev pub pairs_of_text : List ℕ → Result (List IdPair) MapFault
pairs_of_text json = ok_or (value_of json) Syntax >>= pairs_in

-- ---- the pairs, one after the other

-- A target, with the pairs before it: it has to be new, and of the first pair's package.
unfoldable pub check_target : ℕ → List IdPair → ResId → Result (Unit {0}) MapFault
check_target first_package before target = do
  _ ← refuse (list_any (λ other. target.0 == other.0.0) before) (Repeated target)
  refuse (not (package_of target == first_package)) (OtherPackage target)

-- a pair, with the pairs before it, of which the nearest stands first
unfoldable pub checked_pair : ℕ → (List IdPair × IdPair) → Result (List IdPair) MapFault
checked_pair first_package (before, pair) = check_target first_package before pair.0 >>= λ _. Ok (pair ∷ [])

unfoldable pub checked_pairs : List IdPair → Result (List IdPair) MapFault
checked_pairs [] = Ok []
checked_pairs (first ∷ pairs) = joined_each (checked_pair (package_of first.0)) (with_before [] (first ∷ pairs))

-- ---- the map of a JSON text, or its first fault: that of the text, of the shape, of a pair

abbrev pub map_in : List ℕ → Result MapOf MapFault
map_in json = do
  pairs ← pairs_of_text json
  checked ← checked_pairs pairs
  Ok (pairs_of checked)
