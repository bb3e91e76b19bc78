pub mod Selects
pub mod Steps
pub mod Warnings
