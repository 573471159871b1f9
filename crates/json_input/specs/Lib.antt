pub mod Json
pub mod Shape
pub mod Each
pub mod Fault
