pub mod Names
pub mod Requests
pub mod Choice
pub mod Judged
pub mod Deliveries
