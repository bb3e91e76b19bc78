pub mod DataTypes
pub mod Supertypes
pub mod Declarations
pub mod Entities
pub mod Algorithms
