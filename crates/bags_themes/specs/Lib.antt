pub mod Bag
pub mod FoundBag
pub mod BagIds
pub mod Theme
pub mod Styles
pub mod Attribute
pub mod AttributeTrace
pub mod AttributeEnd
pub mod ContentTrace
pub mod Course
pub use Rattle.reference_resolver.specs as reference_resolver
pub use Rattle.bag_rows.specs as bag_rows
pub use Rattle.reference_resolver.specs.config_match
pub use Rattle.reference_resolver.specs.config_precedence
pub use Rattle.reference_resolver.specs.config_record
pub use Rattle.reference_resolver.specs.overlay_map
pub use Rattle.reference_resolver.specs.res_value
pub use Rattle.reference_resolver.specs.string_pool
pub use Rattle.reference_resolver.specs.type_chunks
