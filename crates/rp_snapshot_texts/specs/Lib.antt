pub mod Texts
pub mod Pieces
pub mod Saving
pub mod Again
