pub mod Combinations
pub mod Walks
pub mod Legal
pub mod Edges
pub mod Places
pub mod Nodes
pub mod Faults
