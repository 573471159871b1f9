pub mod ReadOnSteps
pub mod ReadSteps
pub mod NodeKindsLemmas
pub mod NodesWalked
pub mod DataSteps
pub mod KeptSteps
pub mod StylesSteps
pub mod GoalsSteps
pub mod TextLemmas
pub mod LineLemmas
pub mod ReadsBackLemmas
pub mod WrittenSteps
pub use Rattle.config_box.proofs as config_box
pub use Rattle.config_box.proofs.box_answers
pub use Rattle.json_input.proofs as json_input_proofs
