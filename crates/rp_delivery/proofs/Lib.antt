pub mod TurnLemmas
pub mod PutLemmas
pub mod SourceLemmas
pub mod ChoiceLemmas
