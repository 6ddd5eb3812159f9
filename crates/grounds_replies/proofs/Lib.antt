-- The root of the laws.
pub mod Ways
pub mod Verifying
pub mod Controls
