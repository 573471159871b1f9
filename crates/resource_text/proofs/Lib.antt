mod Enumerated
mod ColumnSteps
mod PushedItems
pub use Rattle.cert_maker.proofs.cert_tree
pub mod NamingSteps
pub mod LineSteps
pub mod NoFloat
pub mod NoFloatLines
pub mod Mapped
pub mod VerdictNoFloat
pub mod StyleSteps
