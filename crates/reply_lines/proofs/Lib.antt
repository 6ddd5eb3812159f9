-- The root of the laws.
pub mod Stores
pub mod Lines
pub mod Running
pub mod Printing
