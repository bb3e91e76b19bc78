pub mod Bytes
pub mod Runs
pub mod Inboxes
pub mod Turns
pub mod Serving
pub mod Stepping
