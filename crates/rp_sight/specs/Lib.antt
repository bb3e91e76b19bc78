pub mod Stored
pub mod Parts
pub mod Granted
pub mod Told
pub mod Kept
pub mod Regrants
pub mod Listed
pub mod Seen
