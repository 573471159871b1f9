pub mod Division
pub mod Live
pub mod Walk
pub mod TraceAmong
pub mod Parting
pub mod CommonTrace
pub mod CommonStep
pub mod OpenCondition
pub mod OpenBox
pub mod Halving
pub mod Unfolded
pub use Rattle.bags_themes.specs as bags_themes
pub use Rattle.config_box.specs as config_box
pub use Rattle.bags_themes.specs.reference_resolver
pub use Rattle.bags_themes.specs.config_match
pub use Rattle.bags_themes.specs.config_precedence
pub use Rattle.bags_themes.specs.config_record
pub use Rattle.bags_themes.specs.overlay_map
pub use Rattle.bags_themes.specs.type_chunks
