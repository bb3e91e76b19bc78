pub mod Edits
pub mod Plans
