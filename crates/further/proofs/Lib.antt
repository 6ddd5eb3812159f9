pub mod Standing
pub mod Answers
pub mod Wider
pub mod Controls
mod Turns
mod Raising
