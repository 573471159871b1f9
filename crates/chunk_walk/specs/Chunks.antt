-- Chunks that stand one after the other.
use Rattle.std.specs.Prelude.{◌≡◌, ℕ, zero, suc, ◌+◌, ◌-◌, ◌≤◌, List, [], ◌∷◌, length, drop, Result, Ok, Err, nat_lt, if◌then◌else◌}
use Rattle.chunk_walk.specs.declared.chunk.ChunkFault.{ChunkFault}
use Rattle.chunk_walk.specs.Layout.{least_header_size}
use Rattle.chunk_walk.specs.Chunk.{ChunkOf, chunk_in, chunk_within}

-- A chunk, and the chunks of what is left behind it. A fault is the last.
abbrev pub followed_by : (ℕ → List ℕ → List (Result ChunkOf ChunkFault)) → List ℕ → Result ChunkOf ChunkFault → List (Result ChunkOf ChunkFault)
followed_by chunks left (Ok chunk) = Ok chunk ∷ chunks (chunk.place + length chunk.whole) (drop (length chunk.whole) left)
followed_by chunks left (Err fault) = Err fault ∷ []

-- At most `most` chunks of the bytes that are left, which begin at a place. They end where fewer than
-- eight bytes are left.
unfoldable pub at_most_chunks : ℕ → ℕ → List ℕ → List (Result ChunkOf ChunkFault)
at_most_chunks zero place left = []
at_most_chunks (suc most) place left =
    if nat_lt (length left) least_header_size then [] else followed_by (at_most_chunks most) left (chunk_in place left least_header_size)

-- all chunks of the bytes that are left: each has eight bytes at least, so there are fewer than bytes
unfoldable pub chunks_of : ℕ → List ℕ → List (Result ChunkOf ChunkFault)
chunks_of place left = at_most_chunks (length left) place left

-- the chunks within a chunk, behind its header
abbrev pub children_of : ChunkOf → List (Result ChunkOf ChunkFault)
children_of chunk = chunks_of (chunk.place + length chunk.header) chunk.body

-- a chunk stands within another where its place says, and fits there
pub record StandsAt (outer : ChunkOf) (chunk : ChunkOf) : Type 0 where
  pub behind : outer.place ≤ chunk.place
  pub within : chunk.place + length chunk.whole ≤ outer.place + length outer.whole
  pub found : chunk_within outer (chunk.place - outer.place) ≡ Ok chunk

-- so does one that was found; of a fault nothing is said
abbrev pub StandsIn : ChunkOf → Result ChunkOf ChunkFault → Type 0
StandsIn outer (Ok chunk) = StandsAt outer chunk
StandsIn outer (Err fault) = Unit {0}
