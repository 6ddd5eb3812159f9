-- The root of the laws.
pub mod Contracts
pub mod Main
