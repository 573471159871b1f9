-- The entry offsets of a type: which entries it has, and where these stand. The position of an entry offset is how many
-- stand before it.
use Rattle.std.specs.Prelude.{ℕ, ◌+◌, ◌-◌, ◌*◌, Bool, false, ◌==◌, Option, nat_lt, find, if◌then◌else◌}
use Rattle.std.specs.List.{range_with_len, list_all}
use Rattle.string_pool.specs.chunk_walk.Number.{number}
use Rattle.type_entries.specs.Layout.{entry_offset_size, sparse_index_size, word_size, no_entry}
use Rattle.type_entries.specs.TypeChunk.{TypeChunkOf}

-- the index of the entry at a position: a sparse type names it, and in another type it is the position
unfoldable pub index_of : TypeChunkOf → ℕ → ℕ
index_of chunk position = if chunk.is_sparse then number 2 chunk.offsets (entry_offset_size * position) else position

-- in a type that is not sparse, an entry offset can say that there is no entry
unfoldable pub is_empty : TypeChunkOf → ℕ → Bool
is_empty chunk position = if chunk.is_sparse then false else number 4 chunk.offsets (entry_offset_size * position) == no_entry

-- how many bytes behind the start of the entries the entry at a position stands
unfoldable pub offset_of : TypeChunkOf → ℕ → ℕ
offset_of chunk position =
    if chunk.is_sparse then word_size * number 2 chunk.offsets (entry_offset_size * position + sparse_index_size)
    else number 4 chunk.offsets (entry_offset_size * position)

-- the index at the next position is greater
unfoldable pub rises_at : TypeChunkOf → ℕ → Bool
rises_at chunk position = nat_lt (index_of chunk position) (index_of chunk (position + 1))

-- each index is greater than the one before
unfoldable pub indexes_rise : TypeChunkOf → Bool
indexes_rise chunk = list_all (rises_at chunk) (range_with_len 0 (chunk.offset_count - 1))

-- the position of an index, where the type has one
unfoldable pub position_of : TypeChunkOf → ℕ → Option ℕ
position_of chunk index = find (λ position. index_of chunk position == index) (range_with_len 0 chunk.offset_count)
