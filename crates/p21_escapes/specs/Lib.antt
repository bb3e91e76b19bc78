pub mod Digits
pub mod Encoding
pub mod Decoding
pub mod Forms
pub mod LineEnds
