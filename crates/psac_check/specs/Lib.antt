pub mod Faults
pub mod Follows
pub mod Scopes
