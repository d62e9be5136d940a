pub mod Named
pub mod Lines
pub mod Told
pub mod Compared
