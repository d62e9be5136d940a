pub mod Words
pub mod Asked
pub mod Bench
pub mod Views
pub mod Calls
