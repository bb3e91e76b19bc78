pub mod Binaries
pub mod Trees
pub mod TypeNames
pub mod Parts
