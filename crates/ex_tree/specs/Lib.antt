-- What the tree says in a contract.
pub mod Identifiers
