pub mod KindSteps
pub mod SeparatorSteps
pub mod QualifierLemmas
pub mod FillSteps
pub mod DeviceLemmas
pub mod ChangedNumber
pub mod SetAside
pub use Rattle.locales.proofs as locales
