pub mod Marked
pub mod Grammar
pub mod Language
pub mod Machine
