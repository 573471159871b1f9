-- String pools in a table, whose faults are the table's.
use Rattle.std.specs.Prelude.{Result, Ok, Err}
use Rattle.type_chunks.specs.chunk_walk.Chunk.{ChunkOf}
use Rattle.type_chunks.specs.string_pool.Pool.{PoolOf, pool_of, pool_in}
use Rattle.type_chunks.specs.string_pool.declared.pool.Pool.{Pool}
use Rattle.type_chunks.specs.string_pool.declared.fault.PoolFault.{PoolFault}
use Rattle.type_chunks.specs.type_entries.declared.fault.TableFault.{TableFault}
use Rattle.type_chunks.specs.type_entries.declared.fault.TableFault.TheVariants as faults

-- a pool that was opened, or its fault with the place of its chunk
abbrev pub opened_pool : Result PoolOf PoolFault → ChunkOf → Result PoolOf TableFault
opened_pool (Ok pool) chunk = Ok pool
opened_pool (Err fault) chunk = Err (faults.Pool chunk.place fault)

-- the pool that a chunk is
abbrev pub pool_of_chunk : ChunkOf → Result PoolOf TableFault
pool_of_chunk chunk = opened_pool (pool_in chunk) chunk

-- how contracts see what a call returned: by its content, not its address
abbrev pub seen_table_pool : Result Pool TableFault → Result PoolOf TableFault
seen_table_pool (Ok pool) = Ok (pool_of pool)
seen_table_pool (Err fault) = Err fault
