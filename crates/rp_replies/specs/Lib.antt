pub mod Replies
pub mod Tokens
