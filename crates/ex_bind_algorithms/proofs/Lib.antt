pub mod Populations
