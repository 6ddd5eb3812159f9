-- The root of the definitions.
pub mod Pieces
pub mod Prints
