pub mod References
pub mod Stars
pub mod Slots
pub mod Agreement
pub mod Linked
pub mod Ordered
