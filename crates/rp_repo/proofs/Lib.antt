pub mod Partners
pub mod Running
pub mod RunLemmas
pub mod LineTurns
pub mod AnswerLemmas
