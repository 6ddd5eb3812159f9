-- The root of the definitions.
pub mod Settling
pub mod Holding
pub mod Uniting
