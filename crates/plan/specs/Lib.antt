-- The root of the definitions.
pub mod Planning
pub mod Reach
pub mod Plans
pub mod Marks
