pub mod Disjunctions
pub mod Numbers
pub mod Orderings
pub mod Runs
