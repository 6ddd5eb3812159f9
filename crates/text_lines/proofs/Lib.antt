pub mod Formula
pub mod Hex
pub mod Breaks
pub mod Scan
pub mod Fields
pub mod Ways
