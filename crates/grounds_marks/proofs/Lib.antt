-- The root of the laws.
pub mod Marking
