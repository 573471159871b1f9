pub mod Divisions
pub mod AtCandidate
pub mod LeftOut
pub mod Candidates
pub mod Rests
pub mod Partings
pub mod Walks
pub mod Told
pub mod BoxValues
pub mod OpenBoxSteps
pub mod Places
pub use Rattle.bags_themes.proofs as bags_themes
pub use Rattle.bags_themes.proofs.reference_resolver_proofs as reference_resolver
pub use Rattle.bags_themes.proofs.config_record
