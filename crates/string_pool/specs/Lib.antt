pub mod Lent
pub mod Layout
pub mod Pool
pub mod Units
pub mod Text
pub mod Style
pub mod Spans
pub mod Shown
pub mod Escapes
pub use Rattle.chunk_walk.specs as chunk_walk
pub use Rattle.string_bytes.specs as string_bytes
