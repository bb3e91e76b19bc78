pub mod Selected
pub mod Distinct
