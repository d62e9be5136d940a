pub mod Digits
pub mod LineParts
pub mod OutputNames
