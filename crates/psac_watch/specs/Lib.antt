pub mod Showed
pub mod Published
pub mod Held
pub mod Watched
pub mod Ended
pub mod Over
