pub mod Stacks
pub mod Sides
pub mod Once
pub mod Changes
pub mod Fewest
pub mod PairBox
pub mod AddedNode
pub mod NeededTree
pub mod Tree
pub mod Grouped
pub mod Compared
pub mod TraceLaw
pub mod Difference
pub mod ComparedWith
pub mod DifferenceSeen
pub mod DifferenceLaw
pub mod Values
pub mod RowPlaces
pub mod Loading
pub mod Parting
pub mod RowUses
pub mod PlacesSeen
pub mod LayersSeen
pub mod Unfolded
pub mod Raising
pub mod UsesLimit
pub mod LookUpBoxes
pub use Rattle.cert_maker.specs.cert_checker
pub use Rattle.cert_maker.specs as cert_maker
pub use Rattle.config_box.specs as config_box
pub use Rattle.names.specs as names
pub use Rattle.reference_resolver.specs as reference_resolver
