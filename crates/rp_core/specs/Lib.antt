pub mod Held
pub mod Faults
pub mod Groups
