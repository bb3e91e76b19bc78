pub mod Routing
pub mod Answers
pub mod Meaning
pub mod Laws
