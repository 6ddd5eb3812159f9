-- The root of the definitions.
pub mod Testing
pub mod Hunting
pub mod Finding
pub mod Lent
