pub mod Tokens
pub mod Values
pub mod Instances
pub mod Files
pub mod Again
