pub mod Layout
pub mod Row
pub mod TypeSpec
pub mod TypeChunk
pub mod EntryOffsets
pub mod Entry
pub mod Checks
pub mod Entries
pub mod TypeRows
pub mod WrongSizes
pub use Rattle.config_record.specs as config_record
pub use Rattle.res_value.specs as res_value
pub use Rattle.string_pool.specs as string_pool
pub use Rattle.string_pool.specs.chunk_walk
