pub mod Lexemes
pub mod Rows
pub mod Slices
pub mod Text
pub mod Rising
