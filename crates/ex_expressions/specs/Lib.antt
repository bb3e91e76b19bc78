pub mod Operators
pub mod Literals
pub mod Levels
pub mod Expressions
pub mod Nests
pub mod Strings
pub mod Queries
