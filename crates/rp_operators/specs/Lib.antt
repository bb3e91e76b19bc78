pub mod Amounts
pub mod Ends
pub mod Naming
pub mod Places
pub mod Scalars
pub mod Sights
pub mod Standing
