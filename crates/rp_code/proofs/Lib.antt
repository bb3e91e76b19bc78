pub mod Parts
pub mod Places
mod Worked
