pub mod Rules
pub mod Precedence
pub mod EqualRecord
pub mod Laws
pub use Rattle.config_match.specs as config_match
pub use Rattle.config_match.specs.config_record
