pub mod Told
pub mod Found
pub mod Assigned
pub mod Runnings
pub mod Whole
