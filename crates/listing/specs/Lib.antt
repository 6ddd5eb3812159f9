-- The root of the definitions.
pub mod Filling
pub mod Entries
pub mod Opening
