pub mod LinkOrder
pub mod Loaded
pub mod Named
pub mod Putting
pub mod Singles
