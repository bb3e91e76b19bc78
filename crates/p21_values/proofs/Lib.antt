pub mod Several
pub mod Decided
pub mod Groups
pub mod Steps
pub mod Lists
pub mod Meanings
pub mod Chosen
pub mod Items
