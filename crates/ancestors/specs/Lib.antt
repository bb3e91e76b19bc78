pub mod Labels
pub mod Kept
