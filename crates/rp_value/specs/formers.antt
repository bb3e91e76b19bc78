pub mod elements
