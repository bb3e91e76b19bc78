pub mod Statements
pub mod Parts
