-- Chunks whose faults are the table's.
use Rattle.std.specs.Prelude.{Result, Ok, Err}
use Rattle.string_pool.specs.chunk_walk.Chunk.{ChunkOf}
use Rattle.string_pool.specs.chunk_walk.declared.chunk.ChunkFault.{ChunkFault}
use Rattle.type_entries.specs.declared.fault.TableFault.{TableFault}
use Rattle.type_entries.specs.declared.fault.TableFault.TheVariants as faults

-- a chunk, or its fault
abbrev pub found_chunk : Result ChunkOf ChunkFault → Result ChunkOf TableFault
found_chunk (Ok chunk) = Ok chunk
found_chunk (Err fault) = Err (faults.Chunk fault)
