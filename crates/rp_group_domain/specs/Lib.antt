pub mod Models
pub mod Lines
