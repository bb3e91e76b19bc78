pub mod Kinds
pub mod Faults
pub mod Types
pub mod Room
pub mod Indexed
