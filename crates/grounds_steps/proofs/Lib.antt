pub mod Fields
pub mod Saying
pub mod Storing
