pub mod Rederived
pub mod Variables
pub mod Renaming
