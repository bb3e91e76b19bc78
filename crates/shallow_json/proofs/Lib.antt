mod KeyLemmas
pub mod Passes
pub mod Reading
pub mod Shallow
pub mod StringLemmas
