pub mod Names
pub mod Rows
pub mod Listings
pub mod Contents
pub mod Instances
pub mod Sight
pub mod Alterations
