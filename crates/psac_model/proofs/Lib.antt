pub mod Valued
pub mod Ruled
