pub mod Declared
pub mod Steps
