pub mod Operations
pub mod Reports
pub mod Kinds
pub mod Attributes
