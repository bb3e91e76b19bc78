pub mod Declarations
pub mod Checked
