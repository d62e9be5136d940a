pub mod Branches
pub mod Handles
pub mod Passes
pub mod Claiming
pub mod Divided
pub mod Promised
pub mod Given
