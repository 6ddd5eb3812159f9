-- The root of the laws.
pub mod Drafts
pub mod Builds
pub mod Joins
pub mod Payments
pub mod Outcomes
pub mod Passes
pub mod Starts
pub mod Complete
pub mod Concludes
pub mod Literal
