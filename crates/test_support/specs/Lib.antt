pub mod Plain
pub mod Turns
