pub mod Lines
pub mod Enter
