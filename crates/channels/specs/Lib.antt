-- The root of the definitions.
pub mod Taking
pub mod Sending
pub mod Telling
