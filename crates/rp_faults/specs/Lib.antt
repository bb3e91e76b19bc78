pub mod Twice
pub mod Tests
pub mod Held
pub mod Declarations
pub mod Keys
pub mod Buckets
