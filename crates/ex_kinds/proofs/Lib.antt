pub mod Tests
pub mod Entities
