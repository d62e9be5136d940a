pub mod Slots
pub mod Running
pub mod Opened
pub mod Begins
