pub mod Wrote
pub mod ReadSteps
pub mod LineSteps
pub mod Printed
pub mod ReadBack
pub mod Splits
