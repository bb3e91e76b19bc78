pub mod References
pub mod Tests
pub mod Entries
pub mod Candidates
pub mod Covering
pub mod Telling
