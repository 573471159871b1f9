-- Chunks (AOSP: ResChunk_header).
use Rattle.std.specs.Prelude.{ℕ, ◌+◌, ◌%◌, Bool, ◌&&◌, not, List, [], ◌∷◌, length, take, drop, Result, Ok, Err, nat_lt, ◌==◌}
use Rattle.contract_words.specs.Faults.{checked_by}
use Rattle.chunk_walk.specs.declared.chunk.Chunk.{Chunk}
use Rattle.chunk_walk.specs.declared.chunk.ChunkFault.{ChunkFault}
use Rattle.chunk_walk.specs.declared.chunk.ChunkFault.TheVariants.{Truncated, HeaderShort, HeaderLong, Misaligned, Oversize}
use Rattle.chunk_walk.specs.Number.{number}
use Rattle.chunk_walk.specs.Layout.{least_header_size}

-- A chunk as it stands in a file, without where the file lies in memory: its kind, its place from
-- the file's first byte, the bytes of its header, those behind the header, and all of them.
pub record ChunkOf : Type 0 where
  pub kind : ℕ
  pub place : ℕ
  pub header : List ℕ
  pub body : List ℕ
  pub whole : List ℕ

abbrev pub chunk_of : Chunk → ChunkOf
chunk_of chunk = record { kind = chunk.kind; place = chunk.place; header = chunk.header.now; body = chunk.body.now; whole = chunk.whole.now }

-- how contracts see what a call returned: by its content, not its address
abbrev pub seen : Result Chunk ChunkFault → Result ChunkOf ChunkFault
seen (Ok chunk) = Ok (chunk_of chunk)
seen (Err fault) = Err fault

-- the three numbers at the front of a chunk
abbrev pub kind_in : List ℕ → ℕ
kind_in left = number 2 left 0

abbrev pub header_size_in : List ℕ → ℕ
header_size_in left = number 2 left 2

abbrev pub size_in : List ℕ → ℕ
size_in left = number 4 left 4

-- What can be wrong with the chunk at a place, in the order of the checks. Of its container the
-- bytes from that place on are left, and its header has to have min bytes at least.
abbrev pub chunk_faults : ℕ → List ℕ → ℕ → List (Bool × ChunkFault)
chunk_faults place left min =
    (nat_lt (length left) least_header_size, Truncated place)
    ∷ (nat_lt (header_size_in left) min, HeaderShort place)
    ∷ (nat_lt (size_in left) (header_size_in left), HeaderLong place)
    ∷ (not (header_size_in left % 4 == 0 && size_in left % 4 == 0), Misaligned place)
    ∷ (nat_lt (length left) (size_in left), Oversize place)
    ∷ []

-- what it is made of
abbrev pub fields_in : ℕ → List ℕ → ChunkOf
fields_in place left =
    let whole = take (size_in left) left in
    record {
      kind = kind_in left;
      place = place;
      header = take (header_size_in left) whole;
      body = drop (header_size_in left) whole;
      whole = whole;
    }

-- the chunk at a place, or its first fault
unfoldable pub chunk_in : ℕ → List ℕ → ℕ → Result ChunkOf ChunkFault
chunk_in place left min = checked_by (chunk_faults place left min) (Ok (fields_in place left))

-- the chunk at a place within a chunk, counted from its start
abbrev pub chunk_within : ChunkOf → ℕ → Result ChunkOf ChunkFault
chunk_within chunk at = chunk_in (chunk.place + at) (drop at chunk.whole) least_header_size
