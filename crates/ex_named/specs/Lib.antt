pub mod Outcomes
pub mod Scopes
pub mod DataTypes
pub mod Expressions
pub mod Statements
