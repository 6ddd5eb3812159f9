-- The root of the laws.
pub mod Gathering
pub mod Rows
pub mod Pairs
pub mod Texts
pub mod Whole
pub mod Composed
pub mod Controls
