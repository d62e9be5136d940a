pub mod Valued
pub mod Steps
pub mod Carried
pub mod Knowing
pub mod Promised
