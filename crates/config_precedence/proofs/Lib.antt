pub mod Composition
pub mod Orders
pub mod Densities
pub mod Dimensions
pub mod EitherOrder
pub mod DensityTie
pub mod Matched
pub mod Laws
pub use Rattle.config_match.proofs as config_match
pub use Rattle.config_match.proofs.config_record
