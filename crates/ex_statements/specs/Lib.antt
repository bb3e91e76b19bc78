pub mod Statements
pub mod Nests
