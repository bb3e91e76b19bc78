pub mod Starts
pub mod Faults
pub mod Saved
pub mod Runs
pub mod Checks
pub mod Statuses
pub mod Validations
pub mod Served
