pub mod TypeLevels
pub mod SupertypeLevels
