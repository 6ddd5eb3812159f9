-- The root of the laws.
pub mod Handing
pub mod Going
