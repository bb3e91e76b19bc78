pub mod ListLemmas
pub mod Forms
mod Worked
