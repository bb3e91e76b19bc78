pub mod Blocks
pub mod Inboxes
pub mod Answering
pub mod Looking
pub mod Leaving
pub mod Serving
pub mod Stepping
pub mod Feeding
