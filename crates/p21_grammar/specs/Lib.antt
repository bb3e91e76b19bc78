pub mod Grammar
pub mod Header
pub mod File
pub mod Visited
pub mod Schemas
