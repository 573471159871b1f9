pub mod Exact
pub mod Faults
pub mod FillsIn
pub mod Sequences
pub mod Writes
