pub mod Firsts
pub mod Answering
pub mod Seeing
