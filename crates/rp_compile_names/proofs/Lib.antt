pub mod Put
pub mod Ranks
pub mod Once
pub mod Depths
pub mod Declared
