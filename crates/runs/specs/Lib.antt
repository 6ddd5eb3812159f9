pub mod Fit
pub mod Limits
pub mod Runs
