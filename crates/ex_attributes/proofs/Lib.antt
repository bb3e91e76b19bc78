pub mod Above
pub mod Alike
pub mod InOrder
pub mod Places
pub mod Runs
pub mod Several
pub mod Updates
