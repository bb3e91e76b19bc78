pub mod Lexeme
pub mod Words
pub mod Strings
pub mod Symbols
pub mod Lexical
pub mod Spelling
