pub mod Recorded
pub mod Gives
pub mod Complete
pub mod Reading
