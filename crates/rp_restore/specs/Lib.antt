pub mod Forms
pub mod Faults
pub mod Places
pub mod Again
