-- The root of the laws.
pub mod Deciding
pub mod Flat
