pub mod Numbers
pub mod Failures
pub mod Gives
