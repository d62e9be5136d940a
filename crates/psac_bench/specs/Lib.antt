pub mod Totals
pub mod Served
pub mod Answer
pub mod Made
