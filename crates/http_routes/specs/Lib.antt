pub mod Paths
pub mod Tokens
pub mod Answers
