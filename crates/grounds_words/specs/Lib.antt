-- The root of the definitions.
pub mod Emitting
pub mod Holding
