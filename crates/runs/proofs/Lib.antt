pub mod Controls
pub mod Deciding
pub mod Formed
pub mod Growing
pub mod Ruled
pub mod Saying
pub mod Zeros
