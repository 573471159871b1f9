pub mod Word
pub mod Layout
pub mod ResId
pub mod Kind
pub mod Value
pub mod Complex
pub mod ValueText
pub mod MapRows
pub mod Cell
pub mod Goal
pub use Rattle.chunk_walk.specs as chunk_walk
