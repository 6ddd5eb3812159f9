-- The root of the laws.
pub mod Numbers
pub mod Sets
pub mod Allows
pub mod Numbered
pub mod Upward
pub mod Firsts
pub mod Literals
pub mod Pruning
pub mod Rounds
pub mod Listed
pub mod Local
pub mod Groups
pub mod Controls
pub mod InWords
