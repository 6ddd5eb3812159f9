-- The root of the laws.
pub mod Drafting
pub mod Classing
pub mod Rounding
pub mod Making
