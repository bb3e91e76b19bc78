pub mod Decimals
pub mod Logical
pub mod Spelling
pub mod Whole
pub mod Written
