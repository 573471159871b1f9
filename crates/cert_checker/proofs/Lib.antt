pub mod Law
pub mod MarkSteps
pub mod BoxSteps
pub mod LeafSteps
pub mod NodeSteps
pub mod TreeSteps
pub mod GoalSteps
pub mod StandsSteps
pub mod HeadlineSteps
pub use Rattle.box_trace.proofs.bags_themes
pub use Rattle.box_trace.proofs as box_trace
pub use Rattle.box_trace.proofs.config_record
pub use Rattle.box_trace.proofs.reference_resolver
pub use Rattle.cert_tree.proofs as cert_tree
pub use Rattle.cert_tree.proofs.box_answers
pub use Rattle.cert_tree.proofs.config_box
