pub mod Moves
pub mod Operands
pub mod Sequences
pub mod Bodies
pub mod Answered
