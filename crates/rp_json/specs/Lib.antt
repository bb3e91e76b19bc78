pub mod Written
pub mod Tokens
