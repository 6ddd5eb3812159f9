pub mod Agree
pub mod Entries
pub mod Faults
pub mod Kinds
pub mod Lines
pub mod Pieces
pub mod State
