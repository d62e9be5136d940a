pub mod Ways
pub mod Looks
pub mod Outputs
pub mod Lean
pub mod Texts
pub mod Blanks
pub mod Quoted
