pub mod Layouts
pub mod Finding
pub mod Using
pub mod Populations
pub mod Candidates
pub mod Leading
