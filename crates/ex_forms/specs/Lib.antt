pub mod Input
pub mod Cursor
pub mod Nests
