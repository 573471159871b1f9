pub mod Answer
pub mod Locale
pub mod Condition
pub mod Comparisons
pub mod Kind
pub mod Rule
pub mod Table
pub mod Reads
pub mod Conditions
pub mod Matching
pub use Rattle.config_record.specs as config_record
