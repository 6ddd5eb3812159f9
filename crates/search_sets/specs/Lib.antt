pub mod Places
pub mod Keeps
pub mod Words
pub mod Rising
pub mod Sinking
pub mod Parting
pub mod Lent
