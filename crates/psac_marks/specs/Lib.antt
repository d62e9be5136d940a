pub mod Marked
pub mod Steps
pub mod Passes
pub mod Promised
