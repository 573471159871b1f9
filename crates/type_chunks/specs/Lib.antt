pub mod Layout
pub mod LastSpec
pub mod FoundChunk
pub mod TypePlaces
pub mod PackageChildren
pub mod KnownSpecs
pub use Rattle.type_entries.specs as type_entries
pub use Rattle.type_entries.specs.Row
pub use Rattle.type_entries.specs.TypeRows
pub use Rattle.type_entries.specs.config_record
pub use Rattle.type_entries.specs.res_value
pub use Rattle.type_entries.specs.string_pool
pub use Rattle.type_entries.specs.chunk_walk
