pub mod Tokens
pub mod Taking
pub mod Deciding
