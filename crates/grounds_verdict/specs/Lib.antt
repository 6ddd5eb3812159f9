-- The root of the definitions.
pub mod Tests
pub mod Reasons
pub mod Claims
