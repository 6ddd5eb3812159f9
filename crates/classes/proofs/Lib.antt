pub mod Answers
pub mod Controls
pub mod Examples
mod Chains
mod Clashes
pub mod Merges
mod Nearing
pub mod Pairs
mod Rounds
pub mod Rows
mod Stated
mod Tables
mod Widths
