mod Tables
mod Steps
pub mod Marks
