-- The root of the laws.
pub mod Testing
pub mod Hunting
pub mod Bridge
pub mod Next
pub mod Onward
pub mod Finding
pub mod Controls
