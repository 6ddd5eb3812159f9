pub mod Given
pub mod Digits
pub mod Lines
pub mod Entries
