pub mod Calls
pub mod Ready
pub mod LineRuns
pub mod LineLaws
