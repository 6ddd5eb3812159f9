pub mod Indexing
pub mod Places
pub mod Comparing
pub mod Holding
pub mod Meeting
pub mod Walking
pub mod Progress
pub mod Planned
