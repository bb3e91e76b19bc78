pub mod Counts
pub mod Crashes
pub mod Failures
pub mod Names
