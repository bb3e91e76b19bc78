pub mod Heads
pub mod Mask
pub mod Framing
pub mod Fields
pub mod Next
pub mod Laws
