-- The root of the laws: keys, one entry more, and stated pairs.
pub mod Keying
pub mod Extending
pub mod Pairing
