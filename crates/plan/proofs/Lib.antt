-- The root of the laws.
pub mod Levels
pub mod Order
pub mod Marks
pub mod Reaching
pub mod Planning
pub mod Valued
pub mod Freed
