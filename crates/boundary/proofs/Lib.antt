-- The root of the laws.
pub mod Packed
pub mod Rows
pub mod Going
