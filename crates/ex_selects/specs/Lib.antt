pub mod Ends
pub mod Shared
pub mod Seen
pub mod Sorts
pub mod Kept
pub mod Items
pub mod Takers
pub mod Levels
