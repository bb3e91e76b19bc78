pub mod Tests
pub mod Groups
pub mod Models
