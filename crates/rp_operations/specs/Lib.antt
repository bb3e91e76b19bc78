pub mod Seen
pub mod Bare
pub mod Order
pub mod Equality
pub mod Relations
pub mod Operations
pub mod Laws
