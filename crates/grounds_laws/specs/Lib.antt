-- The root of the definitions.
pub mod Limits
pub mod Draft
pub mod Classes
pub mod Rounds
pub mod Concluding
