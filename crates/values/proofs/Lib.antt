-- The root of the laws.
pub mod Chaining
pub mod Comparing
pub mod Reading
