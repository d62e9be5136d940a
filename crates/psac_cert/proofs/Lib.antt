pub mod Finding
pub mod Opening
pub mod Renaming
pub mod Lined
pub mod Written
pub mod Dumped
pub mod Parting
pub mod Judging
