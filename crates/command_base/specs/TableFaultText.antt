-- The names of a table's fault, and its place.
use Rattle.std.specs.Prelude.{ℕ, List, codes, Option, Some, None}
use Rattle.cert_tree.specs.chunk_walk.declared.chunk.ChunkFault.TheVariants as of_chunk
use Rattle.answer_text.specs.string_pool.declared.fault.PoolFault.TheVariants as of_pool
use Rattle.answer_text.specs.type_chunks.type_entries.declared.fault.TableFault.{TableFault}
use Rattle.answer_text.specs.type_chunks.type_entries.declared.fault.TableFault.TheVariants as of_table
use Rattle.answer_text.specs.NamedText.{named_number}

-- the names of a table's fault from outside in, and its place, where it has one
abbrev pub names_and_place : TableFault → (List ℕ × Option ℕ)
names_and_place (of_table.Chunk (of_chunk.Truncated place)) = (codes "Chunk Truncated", Some place)
names_and_place (of_table.Chunk (of_chunk.HeaderShort place)) = (codes "Chunk HeaderShort", Some place)
names_and_place (of_table.Chunk (of_chunk.HeaderLong place)) = (codes "Chunk HeaderLong", Some place)
names_and_place (of_table.Chunk (of_chunk.Misaligned place)) = (codes "Chunk Misaligned", Some place)
names_and_place (of_table.Chunk (of_chunk.Oversize place)) = (codes "Chunk Oversize", Some place)
names_and_place of_table.NotTable = (codes "NotTable", None)
names_and_place (of_table.PackageId place) = (codes "PackageId", Some place)
names_and_place (of_table.PackageHeader place) = (codes "PackageHeader", Some place)
names_and_place (of_table.Pool place of_pool.HeaderSize) = (codes "Pool HeaderSize", Some place)
names_and_place (of_table.Pool place of_pool.Offsets) = (codes "Pool Offsets", Some place)
names_and_place (of_table.Pool place of_pool.Start) = (codes "Pool Start", Some place)
names_and_place (of_table.TypeId place) = (codes "TypeId", Some place)
names_and_place (of_table.TypeWithoutSpec place) = (codes "TypeWithoutSpec", Some place)
names_and_place (of_table.Config place) = (codes "Config", Some place)
names_and_place (of_table.Offsets place) = (codes "Offsets", Some place)
names_and_place (of_table.Entry place) = (codes "Entry", Some place)
names_and_place (of_table.Value place) = (codes "Value", Some place)
names_and_place of_table.OutOfMemory = (codes "OutOfMemory", None)

-- names, and behind them a place
abbrev pub placed : (List ℕ × Option ℕ) → List ℕ
placed (names, None) = names
placed (names, Some place) = named_number names place

unfoldable pub table_fault_text : TableFault → List ℕ
table_fault_text fault = placed (names_and_place fault)
