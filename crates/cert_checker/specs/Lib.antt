pub mod Rule
pub mod Paths
pub mod Fails
pub mod FirstFault
pub mod Shown
pub mod Verdict
pub mod Headline
pub mod OpenBoxes
pub use Rattle.box_trace.specs.bags_themes
pub use Rattle.box_trace.specs as box_trace
pub use Rattle.box_trace.specs.config_match
pub use Rattle.box_trace.specs.config_precedence
pub use Rattle.box_trace.specs.config_record
pub use Rattle.box_trace.specs.overlay_map
pub use Rattle.box_trace.specs.reference_resolver
pub use Rattle.box_trace.specs.type_chunks
pub use Rattle.cert_tree.specs as cert_tree
pub use Rattle.cert_tree.specs.box_answers
pub use Rattle.cert_tree.specs.config_box
pub use Rattle.cert_tree.specs.res_value
