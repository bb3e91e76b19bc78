pub mod Renamings
pub mod Tables
pub mod Leading
