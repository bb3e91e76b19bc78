pub mod Written
pub mod Tokens
pub mod Reading
pub mod Again
