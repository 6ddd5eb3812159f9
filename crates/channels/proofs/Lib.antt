-- The root of the laws.
pub mod Moving
pub mod Sending
pub mod Fronts
