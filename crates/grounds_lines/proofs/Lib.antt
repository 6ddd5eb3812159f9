-- The root of the laws.
pub mod Numbers
pub mod Frames
pub mod Filling
pub mod Readback
pub mod Whole
pub mod Output
pub mod Controls
