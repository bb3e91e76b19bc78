pub mod Begins
pub mod Escapes
pub mod Fronts
pub mod LineEnds
pub mod Runs
pub mod Spelling
