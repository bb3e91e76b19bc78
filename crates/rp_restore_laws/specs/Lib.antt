pub mod Restoring
pub mod Laws
