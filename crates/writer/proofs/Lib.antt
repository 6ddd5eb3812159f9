-- The root of the laws.
pub mod Made
pub mod Placing
pub mod Showing
pub mod Starting
pub mod Turning
pub mod Seeking
pub mod Writing
pub mod Answers
pub mod Controls
