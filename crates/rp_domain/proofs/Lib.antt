pub mod Put
pub mod Uses
pub mod Reading
pub mod Sharing
pub mod Standing
pub mod Links
pub mod Walked
pub mod Texts
