pub mod Types
pub mod Schemas
pub mod Instances
pub mod Contents
pub mod Kept
