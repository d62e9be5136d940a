pub mod Accept
pub mod Loads
pub mod Opens
pub mod Views
pub mod Loaded
pub mod Named
