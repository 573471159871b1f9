-- Types (AOSP: ResTable_type), each the entries of one type id for one configuration.
use Rattle.std.specs.Prelude.{ℕ, ◌*◌, ◌%◌, Bool, List, ◌==◌, length, drop, slice_index, Option, Some, None, Result, Ok, Err, nat_lt}
use Rattle.contract_words.specs.Faults.{◌>>=◌, refuse}
use Rattle.string_pool.specs.chunk_walk.Number.{number}
use Rattle.string_pool.specs.chunk_walk.Chunk.{ChunkOf}
use Rattle.string_pool.specs.chunk_walk.declared.chunk.ChunkFault.TheVariants.{HeaderShort}
use Rattle.config_record.specs.Record.{record_in, record_bytes}
use Rattle.config_record.specs.declared.record.RecordFault.{RecordFault}
use Rattle.type_entries.specs.declared.fault.TableFault.{TableFault}
use Rattle.type_entries.specs.declared.fault.TableFault.TheVariants as faults
use Rattle.type_entries.specs.declared.owner.Owner.{Owner}
use Rattle.type_entries.specs.declared.type_chunk.TypeChunk.{TypeChunk}
use Rattle.type_entries.specs.Layout.{least_type_header, entry_offset_size}
use Rattle.type_entries.specs.TypeSpec.{TypeSpecOf, type_spec_of}

-- A type in its package, with the type spec that it belongs to, the bytes of its configuration, those
-- that begin with its entry offsets, and the whole chunk, in which the entries stand.
pub record TypeChunkOf : Type 0 where
  pub owner : Owner
  pub spec : TypeSpecOf
  pub place : ℕ
  pub id : ℕ
  pub is_sparse : Bool
  pub offset_count : ℕ
  pub entries_start : ℕ
  pub config : List ℕ
  pub offsets : List ℕ
  pub whole : List ℕ

abbrev pub type_chunk_of : TypeChunk → TypeChunkOf
type_chunk_of chunk = record {
  owner = chunk.owner;
  spec = type_spec_of chunk.spec;
  place = chunk.place;
  id = chunk.id;
  is_sparse = chunk.is_sparse;
  offset_count = chunk.offset_count;
  entries_start = chunk.entries_start;
  config = record_bytes chunk.config;
  offsets = chunk.offsets.now;
  whole = chunk.whole.now;
}

abbrev pub seen_type : Result TypeChunk TableFault → Result TypeChunkOf TableFault
seen_type (Ok chunk) = Ok (type_chunk_of chunk)
seen_type (Err fault) = Err fault

-- the type spec that was found, or the fault that there is none
abbrev pub found_spec : Option TypeSpecOf → ℕ → Result TypeSpecOf TableFault
found_spec (Some spec) place = Ok spec
found_spec None place = Err (faults.TypeWithoutSpec place)

-- the configuration that was read, or the fault that it is too short or passes the header
abbrev pub found_config : Result (List ℕ) RecordFault → ℕ → Result (List ℕ) TableFault
found_config (Ok bytes) place = Ok bytes
found_config (Err fault) place = Err (faults.Config place)

-- A type, or its first fault; `found` is the type spec that it belongs to. Its id is at 8, its
-- flags at 9 (the lowest bit says that it is sparse), the count of its entry offsets at 12, where its entries start
-- at 16, and its configuration at 20. Behind the header stand the entry offsets.
unfoldable pub type_with : Owner → Option TypeSpecOf → ChunkOf → Result TypeChunkOf TableFault
type_with owner found chunk = do
  _ ← refuse (nat_lt (length chunk.header) least_type_header) (faults.Chunk (HeaderShort chunk.place))
  let id = slice_index chunk.header 8
  _ ← refuse (id == 0) (faults.TypeId chunk.place)
  spec ← found_spec found chunk.place
  config ← found_config (record_in (drop 20 chunk.header)) chunk.place
  let offset_count = number 4 chunk.header 12
  _ ← refuse (nat_lt (length chunk.body) (entry_offset_size * offset_count)) (faults.Offsets chunk.place)
  Ok (record {
    owner = owner;
    spec = spec;
    place = chunk.place;
    id = id;
    is_sparse = slice_index chunk.header 9 % 2 == 1;
    offset_count = offset_count;
    entries_start = number 4 chunk.header 16;
    config = config;
    offsets = chunk.body;
    whole = chunk.whole;
  })
