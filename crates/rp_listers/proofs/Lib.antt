pub mod Among
pub mod Told
