pub mod Index
pub mod Lookup
pub mod Reading
pub mod Lent
