pub mod ItemSteps
pub mod LineSteps
pub mod Cited
pub mod InOrder
pub mod ContentEquality
pub mod KeyOrder
pub mod RowContents
pub use Rattle.bags_themes.proofs as bags_themes_proofs
pub use Rattle.bags_themes.proofs.reference_resolver_proofs as reference_resolver
pub mod RowCounts
