pub mod Cutting
pub mod Based
pub mod Sizes
pub mod Within
pub mod Fresh
