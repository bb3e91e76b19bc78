pub mod Schemas
pub mod Uses
pub mod ValidUses
pub mod Extents
