-- Packages (AOSP: ResTable_package): their names, and their rows.
use Rattle.std.specs.Prelude.{ℕ, ◌%◌, Bool, false, ◌&&◌, ◌||◌, not, List, [], ◌∷◌, map, ◌==◌, length, take, drop, Result, Ok, Err, nat_lt, if◌then◌else◌}
use Rattle.std.specs.List.{flat_map}
use Rattle.contract_words.specs.Faults.{◌>>=◌, refuse}
use Rattle.type_chunks.specs.chunk_walk.Number.{number}
use Rattle.type_chunks.specs.chunk_walk.Chunk.{ChunkOf, chunk_within}
use Rattle.type_chunks.specs.chunk_walk.declared.chunk.ChunkFault.TheVariants.{HeaderShort}
use Rattle.type_chunks.specs.string_pool.Pool.{PoolOf, pool_of, empty_pool}
use Rattle.type_chunks.specs.string_pool.Text.{TextOf, text_of}
use Rattle.type_chunks.specs.type_entries.declared.fault.TableFault.{TableFault}
use Rattle.type_chunks.specs.type_entries.declared.fault.TableFault.TheVariants as faults
use Rattle.overlay_map.specs.declared.package.Package.{Package}
use Rattle.overlay_map.specs.declared.package_header.PackageHeader.{PackageHeader}
use Rattle.overlay_map.specs.Layout.{pool_kind, least_package_header, package_header_with_offset}
use Rattle.type_chunks.specs.FoundChunk.{found_chunk}
use Rattle.overlay_map.specs.TablePools.{pool_of_chunk}
use Rattle.type_chunks.specs.Row.{RowOf}
use Rattle.type_chunks.specs.PackageChildren.{rows_of_children, rows_of_kept}

-- The header of a package, with the names that it leads to, without where its file lies in memory.
pub record PackageHeaderOf : Type 0 where
  pub id : ℕ
  pub name : TextOf
  -- the names of its types
  pub type_names : PoolOf
  -- the names of its entries
  pub key_names : PoolOf
  -- how far the ids of types stand above their indexes among the names
  pub type_id_offset : ℕ

abbrev pub package_header_of : PackageHeader → PackageHeaderOf
package_header_of header = record {
  id = header.id;
  name = text_of header.name;
  type_names = pool_of header.type_names;
  key_names = pool_of header.key_names;
  type_id_offset = header.type_id_offset;
}

abbrev pub seen_header : Result PackageHeader TableFault → Result PackageHeaderOf TableFault
seen_header (Ok header) = Ok (package_header_of header)
seen_header (Err fault) = Err fault

-- A package, without where its file lies in memory.
pub record PackageOf : Type 0 where
  pub header : PackageHeaderOf
  pub rows : List RowOf

abbrev pub package_of : Package → PackageOf
package_of read = record { header = package_header_of read.header; rows = rows_of_kept read.types }

abbrev pub packages_of : List Package → List PackageOf
packages_of packages = map package_of packages

-- the rows of packages, in the order of the file
unfoldable pub rows_of_packages : List PackageOf → List RowOf
rows_of_packages packages = flat_map (λ read. read.rows) packages

-- units of two bytes, up to the first that is zero
unfoldable pub before_zero : List ℕ → List ℕ
before_zero [] = []
before_zero (_ ∷ []) = []
before_zero (low ∷ high ∷ units) = if low == 0 && high == 0 then [] else low ∷ high ∷ before_zero units

-- the name of a package, which has room for 128 units at 12
abbrev pub name_in : ChunkOf → TextOf
name_in chunk = record { utf8 = false; bytes = before_zero (take 256 (drop 12 chunk.header)) }

-- a place where names can stand: a multiple of four, behind the header, and in the package
abbrev pub is_place_of_names : ChunkOf → ℕ → Bool
is_place_of_names chunk at = at % 4 == 0 && not (nat_lt at (length chunk.header)) && nat_lt at (length chunk.whole)

-- The names at a place from the package's start: a pool, or its first fault.
unfoldable pub names_at : ChunkOf → ℕ → Result PoolOf TableFault
names_at chunk at = do
  _ ← refuse (not (is_place_of_names chunk at)) (faults.PackageHeader chunk.place)
  names ← found_chunk (chunk_within chunk at)
  _ ← refuse (not (names.kind == pool_kind)) (faults.PackageHeader chunk.place)
  pool_of_chunk names

-- a package with a place of 0 has no names
abbrev pub names_in : ChunkOf → ℕ → Result PoolOf TableFault
names_in chunk at = if at == 0 then Ok empty_pool else names_at chunk at

-- typeIdOffset, which a header of another size does not have
abbrev pub type_id_offset_in : ChunkOf → ℕ
type_id_offset_in chunk = if length chunk.header == package_header_with_offset then number 4 chunk.header 284 else 0

-- The header of a package, or its first fault. The id is at 8, the name at 12, and where the names of types
-- and of entries stand at 268 and 276.
unfoldable pub package_header_in : ChunkOf → Result PackageHeaderOf TableFault
package_header_in chunk = do
  _ ← refuse (nat_lt (length chunk.header) least_package_header) (faults.Chunk (HeaderShort chunk.place))
  let id = number 4 chunk.header 8
  _ ← refuse (id == 0 || nat_lt 255 id) (faults.PackageId chunk.place)
  type_names ← names_in chunk (number 4 chunk.header 268)
  key_names ← names_in chunk (number 4 chunk.header 276)
  Ok (record {
    id = id;
    name = name_in chunk;
    type_names = type_names;
    key_names = key_names;
    type_id_offset = type_id_offset_in chunk;
  })

-- A package, or its first fault; `index` packages stand before it.
unfoldable pub package_in : ℕ → ChunkOf → Result PackageOf TableFault
package_in index chunk = do
  header ← package_header_in chunk
  rows ← rows_of_children (record { id = header.id; index = index }) chunk
  Ok (record { header = header; rows = rows })
