pub mod Check
pub mod Explained
