pub mod Again
pub mod Constraints
pub mod Inherited
pub mod Lists
pub mod Ancestors
pub mod Parts
