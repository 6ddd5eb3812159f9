pub mod Possible
pub mod Steps
pub mod Sound
pub mod InWords
