-- The root of the definitions.
pub mod Replies
pub mod Claims
