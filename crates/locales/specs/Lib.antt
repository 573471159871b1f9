pub mod Zero
pub mod Locale
pub mod LocaleNumber
pub mod TextNumber
pub mod Lines
pub mod LikelyScripts
pub mod Parents
pub mod Representatives
pub mod Facts
pub mod Line
pub mod LocaleRule
pub mod KeptScript
pub mod Compared
pub mod Words
pub mod Text
pub mod Suits
pub mod Nearer
pub mod Better
pub use Rattle.contract_words.specs as contract_words
pub use Rattle.chunk_walk.specs as chunk_walk
