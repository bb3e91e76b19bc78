pub mod Entities
pub mod Inherited
pub mod Wholes
