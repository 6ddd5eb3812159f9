-- The root of the definitions.
pub mod Chains
pub mod Reading
