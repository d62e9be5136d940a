pub mod Cells
pub mod Edits
pub mod Steps
pub mod Reports
pub mod Opened
pub mod Finished
pub mod Complete
