pub mod Takes
pub mod Wanted
