-- The root of the definitions.
pub mod Parsing
pub mod Machine
