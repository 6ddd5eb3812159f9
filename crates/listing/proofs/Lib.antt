-- The root of the laws.
pub mod Lines
pub mod Filling
pub mod Pieces
pub mod Whole
pub mod Ending
pub mod Output
