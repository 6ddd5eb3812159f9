pub mod Entries
pub mod Keys
pub mod Limits
pub mod Pairs
