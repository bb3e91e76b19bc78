pub mod Tables
pub mod Places
pub mod Standing
pub mod Renamed
pub mod Chosen
pub mod Groups
pub mod Firsts
