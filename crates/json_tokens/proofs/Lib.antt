pub mod Standing
pub mod Walked
pub mod Members
pub mod Slots
pub mod Whole
pub mod EachWalked
pub mod OfKind
pub mod Only
