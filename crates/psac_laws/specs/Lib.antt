pub mod Standing
pub mod Writes
pub mod Places
pub mod Manners
pub mod InSeries
