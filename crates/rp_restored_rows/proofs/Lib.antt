pub mod Checks
pub mod Orders
pub mod Tested
pub mod GroupRows
pub mod LinkTests
pub mod FileContents
pub mod ModelRows
