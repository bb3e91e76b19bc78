pub mod Deciding
pub mod Partners
pub mod MessageTurns
