pub mod Digits
pub mod Exponents
pub mod Integers
pub mod Numerals
pub mod Ranks
pub mod Rereading
pub mod Zeros
