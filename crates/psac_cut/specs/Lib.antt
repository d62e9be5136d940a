pub mod CutShort
pub mod Based
pub mod Within
