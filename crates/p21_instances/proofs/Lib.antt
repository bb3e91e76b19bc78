pub mod Order
pub mod Twice
pub mod Sets
pub mod SortedNames
pub mod Keywords
pub mod SortedBy
pub mod ByName
