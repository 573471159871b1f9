-- The head of each id. Contracts within the crate alone speak of this.
use Rattle.std.specs.Prelude.{ℕ, slice_get}
use Rattle.std.specs.Option.{option_map_or}
use Rattle.type_chunks.specs.res_value.ResId.{package_of, type_of, entry_of}
use Rattle.overlay_map.specs.declared.heads.EntryHeads.{EntryHeads}
use Rattle.overlay_map.specs.declared.heads.TypeHeads.{TypeHeads}
use Rattle.overlay_map.specs.declared.heads.Heads.{Heads}

-- the head of an entry of a type; 0 where there is none
abbrev pub head_of_entry : EntryHeads → ℕ → ℕ
head_of_entry of entry = option_map_or (λ head. head) (slice_get of.heads.items entry) 0

-- the head of an entry of a type of a package
abbrev pub head_of_type : TypeHeads → ℕ → ℕ → ℕ
head_of_type of type_id entry = option_map_or (λ found. head_of_entry found entry) (slice_get of.by_type.items type_id) 0

-- the head of an entry of a type of a package of this id
abbrev pub head_of_parts : Heads → ℕ → ℕ → ℕ → ℕ
head_of_parts heads package_id type_id entry = option_map_or (λ found. head_of_type found type_id entry) (slice_get heads.by_package.items package_id) 0

-- the head of the id of a number
abbrev pub head_of : Heads → ℕ → ℕ
head_of heads id = head_of_parts heads (package_of (record { 0 = id })) (type_of (record { 0 = id })) (entry_of (record { 0 = id }))
