pub mod Denoted
pub mod Written
