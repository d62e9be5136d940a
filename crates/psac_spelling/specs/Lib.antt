pub mod Canonical
pub mod Unlined
