pub mod Operands
pub mod Fitting
pub mod Operators
pub mod Taken
