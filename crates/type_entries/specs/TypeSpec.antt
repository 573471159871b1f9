-- Type specs (AOSP: ResTable_typeSpec).
use Rattle.std.specs.Prelude.{ℕ, ◌*◌, List, [], ◌∷◌, Bool, ◌==◌, length, slice_index, Result, Ok, Err, nat_lt}
use Rattle.contract_words.specs.Faults.{checked_by}
use Rattle.string_pool.specs.chunk_walk.Number.{number}
use Rattle.string_pool.specs.chunk_walk.Chunk.{ChunkOf}
use Rattle.string_pool.specs.chunk_walk.declared.chunk.ChunkFault.TheVariants.{HeaderShort}
use Rattle.type_entries.specs.declared.fault.TableFault.{TableFault}
use Rattle.type_entries.specs.declared.fault.TableFault.TheVariants as faults
use Rattle.type_entries.specs.declared.type_spec.TypeSpec.{TypeSpec}
use Rattle.type_entries.specs.Layout.{least_type_spec_header, entry_flags_size}

-- The id of a type, how many entries it has, and the bytes that begin with their flags.
pub record TypeSpecOf : Type 0 where
  pub id : ℕ
  pub entry_count : ℕ
  pub flags : List ℕ

abbrev pub type_spec_of : TypeSpec → TypeSpecOf
type_spec_of spec = record { id = spec.id; entry_count = spec.entry_count; flags = spec.flags.now }

abbrev pub seen_spec : Result TypeSpec TableFault → Result TypeSpecOf TableFault
seen_spec (Ok spec) = Ok (type_spec_of spec)
seen_spec (Err fault) = Err fault

-- the fields of a type spec's chunk: the id at 8, the count of entries at 12, then the flags
abbrev pub spec_fields : ChunkOf → TypeSpecOf
spec_fields chunk = record { id = slice_index chunk.header 8; entry_count = number 4 chunk.header 12; flags = chunk.body }

-- what can be wrong with it, in the order of the checks
abbrev pub type_spec_faults : ChunkOf → List (Bool × TableFault)
type_spec_faults chunk =
    (nat_lt (length chunk.header) least_type_spec_header, faults.Chunk (HeaderShort chunk.place))
    ∷ ((spec_fields chunk).id == 0, faults.TypeId chunk.place)
    ∷ (nat_lt (length chunk.body) (entry_flags_size * (spec_fields chunk).entry_count), faults.Offsets chunk.place)
    ∷ []

-- the type spec that a chunk is, or its first fault
unfoldable pub type_spec_in : ChunkOf → Result TypeSpecOf TableFault
type_spec_in chunk = checked_by (type_spec_faults chunk) (Ok (spec_fields chunk))
