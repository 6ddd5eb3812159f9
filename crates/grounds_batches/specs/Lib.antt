-- The root of the definitions.
pub mod Marking
pub mod Sending
pub mod Drawing
