pub mod Positions
pub mod Seen
