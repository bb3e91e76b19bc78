pub mod Entries
pub mod Models
pub mod Contents
pub mod Changes
pub mod Kept
