pub mod KnownSteps
pub mod PlacesSteps
pub use Rattle.type_entries.proofs as type_entries
