pub mod Parts
pub mod Sessions
pub mod Finished
pub mod Reports
pub mod Complete
