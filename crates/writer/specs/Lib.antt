-- The root of the definitions.
pub mod Claims
pub mod Drawing
pub mod Seeking
pub mod Lent
