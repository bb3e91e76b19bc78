pub mod Proved
pub mod Ranges
pub mod Schemas
