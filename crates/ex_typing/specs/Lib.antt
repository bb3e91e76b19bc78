pub mod Expressions
pub mod Trees
