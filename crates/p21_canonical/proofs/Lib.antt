pub mod Ascii
mod Decimals
mod Forms
mod JoinedNames
mod Marks
mod Written
