pub mod Loading
pub mod Configuration
