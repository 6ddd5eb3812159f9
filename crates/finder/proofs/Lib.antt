-- The root of the laws.
pub mod Standing
pub mod Judging
pub mod Later
