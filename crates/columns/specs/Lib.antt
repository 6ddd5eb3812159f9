pub mod Fit
pub mod Lent
