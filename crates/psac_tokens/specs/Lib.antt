pub mod Lex
pub mod Number
