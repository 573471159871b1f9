pub mod Standing
pub mod Fields
pub mod Kind
pub mod ShortList
pub mod Text
pub mod Reads
pub use Rattle.json_input.specs as json_input
pub use Rattle.json.specs as json
