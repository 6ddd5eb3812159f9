-- The root of the laws.
pub mod Printing
pub mod Outputs
