pub mod Entities
pub mod Layouts
pub mod Kept
