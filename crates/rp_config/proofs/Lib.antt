pub mod ConfigLemmas
pub mod LoadLemmas
