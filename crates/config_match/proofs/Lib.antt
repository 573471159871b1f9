pub mod TableLemmas
pub mod ReadsLemmas
pub mod LocaleLemmas
pub mod AnswerSteps
pub mod RegionAlone
pub mod NoMismatch
pub mod OtherLocale
pub mod SetAside
pub use Rattle.config_record.proofs as config_record
