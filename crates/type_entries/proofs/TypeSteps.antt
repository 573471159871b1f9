-- How a type is read from its chunk, or refused.
use Rattle.std.proofs.Common.{◌≡◌, ◌≢◌, ℕ, ◌*◌, ◌%◌, ◌<◌, ◌≤◌, true, false, List, length, drop, slice_index, Option, Some, None, Ok, Err, refl, arith}
use Rattle.std.specs.Prelude.{◌==◌, nat_lt}
use Rattle.std.proofs.lemmas.Bool.Decides.{nat_tests}
use Rattle.string_pool.specs.chunk_walk.Number.{number}
use Rattle.string_pool.specs.chunk_walk.Chunk.{ChunkOf}
use Rattle.string_pool.specs.chunk_walk.declared.chunk.ChunkFault.TheVariants.{HeaderShort}
use Rattle.config_record.specs.Record.{record_in}
use Rattle.config_record.specs.declared.record.RecordFault.{RecordFault}
use Rattle.type_entries.specs.declared.fault.TableFault.TheVariants as faults
use Rattle.type_entries.specs.declared.owner.Owner.{Owner}
use Rattle.type_entries.specs.Layout.{entry_offset_size, least_type_header}
use Rattle.type_entries.specs.TypeSpec.{TypeSpecOf}
use Rattle.type_entries.specs.TypeChunk.{type_with}

module _ (owner : Owner) (found : Option TypeSpecOf) (chunk : ChunkOf) where
  pub header-short : length chunk.header < least_type_header → type_with owner found chunk ≡ Err (faults.Chunk (HeaderShort chunk.place))
  unfolding type_with
  header-short short = let test : nat_lt (length chunk.header) least_type_header ≡ true = grind (arith, nat_tests) in rw test refl

  module _ (header : least_type_header ≤ length chunk.header) where
    has_header : nat_lt (length chunk.header) least_type_header ≡ false
    has_header = grind (arith, nat_tests)

    pub id-zero : slice_index chunk.header 8 ≡ 0 → type_with owner found chunk ≡ Err (faults.TypeId chunk.place)
    unfolding type_with
    id-zero zero = rw (has_header, zero) refl

    module _ (id : slice_index chunk.header 8 ≢ 0) where
      has_id : (slice_index chunk.header 8 == 0) ≡ false
      has_id = grind (arith, nat_tests)

      pub spec-none : found ≡ None → type_with owner found chunk ≡ Err (faults.TypeWithoutSpec chunk.place)
      unfolding type_with
      spec-none none = rw (has_header, has_id, none) refl

      module _ (spec : TypeSpecOf) (known : found ≡ Some spec) where
        pub config-wrong : (fault : RecordFault) → record_in (drop 20 chunk.header) ≡ Err fault → type_with owner found chunk ≡ Err (faults.Config chunk.place)
        unfolding type_with
        config-wrong fault wrong = rw (has_header, has_id, known, wrong) refl

        module _ (config : List ℕ) (right : record_in (drop 20 chunk.header) ≡ Ok config) where
          pub offsets-short : length chunk.body < entry_offset_size * number 4 chunk.header 12 → type_with owner found chunk ≡ Err (faults.Offsets chunk.place)
          unfolding type_with
          offsets-short short =
              let test : nat_lt (length chunk.body) (entry_offset_size * number 4 chunk.header 12) ≡ true = grind (arith, nat_tests) in
              rw (has_header, has_id, known, right, test) refl

          pub type-read : entry_offset_size * number 4 chunk.header 12 ≤ length chunk.body → type_with owner found chunk ≡ Ok (record {
            owner = owner;
            spec = spec;
            place = chunk.place;
            id = slice_index chunk.header 8;
            is_sparse = slice_index chunk.header 9 % 2 == 1;
            offset_count = number 4 chunk.header 12;
            entries_start = number 4 chunk.header 16;
            config = config;
            offsets = chunk.body;
            whole = chunk.whole;
          })
          unfolding type_with
          type-read fit =
              let test : nat_lt (length chunk.body) (entry_offset_size * number 4 chunk.header 12) ≡ false = grind (arith, nat_tests) in
              rw (has_header, has_id, known, right, test) refl
