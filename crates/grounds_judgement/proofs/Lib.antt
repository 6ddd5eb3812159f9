-- The root of the laws.
pub mod Answers
pub mod Judging
pub mod Controls
