pub mod Told
pub mod Named
pub mod Listed
pub mod Single
