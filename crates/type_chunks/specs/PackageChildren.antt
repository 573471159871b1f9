-- The rows of the chunks in a package, in the order of the file, or the first fault; and those of the types that are
-- kept of it.
use Rattle.std.specs.Prelude.{List, [], ◌==◌, Result, Ok, Err, if◌then◌else◌}
use Rattle.contract_words.specs.Faults.{◌>>=◌}
use Rattle.contract_words.specs.Sequences.{joined_each, with_before}
use Rattle.string_pool.specs.chunk_walk.Chunk.{ChunkOf, chunk_of}
use Rattle.string_pool.specs.chunk_walk.Chunks.{children_of}
use Rattle.string_pool.specs.chunk_walk.declared.chunk.ChunkFault.{ChunkFault}
use Rattle.type_entries.specs.declared.fault.TableFault.{TableFault}
use Rattle.type_entries.specs.declared.fault.TableFault.TheVariants as faults
use Rattle.type_entries.specs.declared.owner.Owner.{Owner}
use Rattle.type_entries.specs.Row.{RowOf}
use Rattle.type_entries.specs.TypeSpec.{type_spec_in}
use Rattle.type_entries.specs.Entries.{rows_of_entries}
use Rattle.type_chunks.specs.declared.package_types.PackageTypes.{PackageTypes}
use Rattle.type_chunks.specs.Layout.{type_kind, type_spec_kind}
use Rattle.type_chunks.specs.LastSpec.{type_in}
use Rattle.type_chunks.specs.TypePlaces.{rows_of_places}

-- A chunk in a package, with the chunks that stand before it there. A type spec has no rows, and
-- chunks of other kinds are passed over.
unfoldable pub rows_of_child : Owner → (List (Result ChunkOf ChunkFault) × Result ChunkOf ChunkFault) → Result (List RowOf) TableFault
rows_of_child owner (before, Err fault) = Err (faults.Chunk fault)
rows_of_child owner (before, Ok chunk) =
    if chunk.kind == type_spec_kind then (type_spec_in chunk >>= λ spec. Ok [])
    else (if chunk.kind == type_kind then (type_in owner before chunk >>= rows_of_entries)
    else Ok [])

-- the chunks in a package
abbrev pub rows_of_children : Owner → ChunkOf → Result (List RowOf) TableFault
rows_of_children owner chunk = joined_each (rows_of_child owner) (with_before [] (children_of chunk))

-- the rows of the types that are kept of a package
abbrev pub rows_of_kept : PackageTypes → List RowOf
rows_of_kept types = rows_of_places types.owner (chunk_of types.container) types.places.items
