pub mod Rules
pub mod Trees
