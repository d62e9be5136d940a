pub mod Agrees
pub mod Operators
pub mod Values
pub mod Actions
pub mod Names
pub mod Namings
pub mod Trees
pub mod Simulate
