pub mod Blocks
pub mod Elements
pub mod Held
pub mod Values
pub mod formers
