pub mod Dropped
pub mod Kept
pub mod Opened
pub mod Shown
