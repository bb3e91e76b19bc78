pub mod Steadiness
pub mod Kept
pub mod Limits
pub mod Within
pub mod CompiledKinds
