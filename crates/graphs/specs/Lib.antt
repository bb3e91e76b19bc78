pub mod Graphs
pub mod Traces
pub mod Placed
