pub mod NumberSet
pub mod Members
pub mod SearchedSet
pub mod TriedNumbers
pub mod Changes
pub mod Question
pub mod Condition
pub mod RuleSearch
pub mod MemberAnswers
pub mod Sameness
pub mod Facts
pub mod Unfolded
pub use Rattle.config_precedence.specs as config_precedence
pub use Rattle.config_precedence.specs.config_match
pub use Rattle.config_precedence.specs.config_record
