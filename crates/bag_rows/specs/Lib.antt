pub mod Merge
pub mod Undefined
pub use Rattle.res_value.specs as res_value
