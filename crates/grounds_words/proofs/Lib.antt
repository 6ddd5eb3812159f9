-- The root of the laws: words; steps in columns.
pub mod Wording
pub mod Emitting
