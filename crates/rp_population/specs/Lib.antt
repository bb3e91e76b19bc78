pub mod Populations
pub mod Entities
pub mod Uses
pub mod Sought
pub mod Found
pub mod Candidates
