-- The root of the definitions.
pub mod Lines
pub mod Filling
pub mod Opening
