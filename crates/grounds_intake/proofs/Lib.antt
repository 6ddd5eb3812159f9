-- The root of the laws.
pub mod Ways
pub mod Filled
pub mod Lined
pub mod Noting
pub mod Standing
pub mod Controls
