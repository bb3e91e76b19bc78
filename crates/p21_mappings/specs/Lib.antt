pub mod Layouts
pub mod Instances
pub mod ReadSlots
pub mod Contents
pub mod Referred
