pub mod Attributes
pub mod Sorts
