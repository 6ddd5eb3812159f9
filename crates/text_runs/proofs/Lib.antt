pub mod Answers
pub mod Controls
pub mod Saying
