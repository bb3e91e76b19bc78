pub mod Reading
pub mod WholeFiles
pub mod Ascending
