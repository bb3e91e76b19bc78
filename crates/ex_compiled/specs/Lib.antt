pub mod Compiling
