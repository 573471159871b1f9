pub mod Bytes
pub mod Front
pub mod Part
pub use Rattle.chunk_walk.specs as chunk_walk
