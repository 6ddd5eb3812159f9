-- The root of the laws.
pub mod Marks
pub mod Owned
pub mod Sends
pub mod Words
pub mod Forgetting
pub mod Owners
pub mod Batching
pub mod Draws
pub mod Breaches
