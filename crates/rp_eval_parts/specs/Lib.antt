pub mod Charges
pub mod Written
pub mod Counts
pub mod Callings
pub mod Turns
pub mod Serving
