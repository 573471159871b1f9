pub mod Selection
pub mod Takers
pub mod OrderLaw
pub mod Decision
pub mod Ends
pub mod Trace
pub mod SameTrace
pub use Rattle.config_precedence.specs as config_precedence
pub use Rattle.config_precedence.specs.config_match
pub use Rattle.config_precedence.specs.config_record
pub use Rattle.overlay_map.specs as overlay_map
pub use Rattle.overlay_map.specs.res_value
pub use Rattle.overlay_map.specs.string_pool
pub use Rattle.overlay_map.specs.type_chunks
