pub mod Kept
pub mod Changes
pub mod Steps
