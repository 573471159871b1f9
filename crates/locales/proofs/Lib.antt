pub mod LocaleLemmas
pub mod LocaleGiven
pub mod Rising
pub mod Keys
pub mod InOrder
pub mod ListsAgree
pub mod Above
pub mod TextLemmas
pub mod AlikeLemmas
pub mod NearerLemmas
pub mod BetterLaws
pub mod ReadBack
pub mod GivenLemmas
pub use Rattle.contract_words.proofs as contract_words
