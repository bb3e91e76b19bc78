pub mod Ascending
pub mod Kept
