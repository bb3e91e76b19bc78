pub mod Faults
pub mod Left
pub mod Room
pub mod Numbers
pub mod Texts
pub mod Snapshots
