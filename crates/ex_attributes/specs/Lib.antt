pub mod Attributes
pub mod Steps
pub mod Tables
pub mod Kept
