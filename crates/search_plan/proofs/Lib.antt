pub mod Args
pub mod Growing
pub mod Literals
pub mod Order
pub mod Planning
pub mod Reaching
pub mod Never
