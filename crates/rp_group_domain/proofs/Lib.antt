pub mod Positioning
pub mod Walks
pub mod PlaceOrder
pub mod Standing
pub mod Linking
pub mod Naming
pub mod Writing
