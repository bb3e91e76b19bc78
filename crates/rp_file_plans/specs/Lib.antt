pub mod Files
pub mod Links
