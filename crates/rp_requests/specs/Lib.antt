pub mod Asks
pub mod Kept
