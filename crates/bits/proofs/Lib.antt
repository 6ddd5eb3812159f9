pub mod Loops
pub mod Members
pub mod Words
