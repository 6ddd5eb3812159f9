-- The root of the laws.
pub mod Controls
pub mod Ruling
pub mod Saying
