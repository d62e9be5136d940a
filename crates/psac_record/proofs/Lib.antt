mod Chains
pub mod Layers
pub mod Listed
pub mod Parted
mod Sizes
