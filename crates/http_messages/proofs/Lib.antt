pub mod Sizes
pub mod Masks
pub mod Parsing
pub mod Places
pub mod Growing
pub mod Uniqueness
