pub mod Chained
pub mod Steps
pub mod Passes
pub mod Swept
pub mod Walked
pub mod Promised
