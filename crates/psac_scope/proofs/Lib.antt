pub mod Lengths
pub mod Acts
