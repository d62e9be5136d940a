pub mod Parts
pub mod Gave
pub mod Owed
pub mod Going
pub mod Repaired
