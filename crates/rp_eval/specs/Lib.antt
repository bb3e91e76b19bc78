pub mod Bodies
pub mod Endings
pub mod Limits
pub mod Beginnings
pub mod Serving
pub mod Parts
