pub mod Keys
pub mod Shallow
pub mod Passing
pub mod Texts
