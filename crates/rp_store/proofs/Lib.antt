pub mod Finding
pub mod Counting
pub mod Owned
pub mod Using
