-- The root of the definitions.
pub mod Judgements
pub mod Claims
