pub mod Ranges
pub mod Members
pub mod Walked
pub mod InTurn
pub mod Listed
