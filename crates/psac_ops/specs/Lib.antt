pub mod Value
pub mod Table
pub mod Named
pub mod Words
pub mod Written
pub mod Rows
