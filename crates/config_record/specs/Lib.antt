pub mod Coord
pub mod Record
pub mod ComparedNumber
pub mod Device
pub mod DeviceJson
pub mod DeviceKinds
pub mod DeviceSeen
pub mod Separator
pub mod Qualifiers
pub use Rattle.locales.specs as locales
