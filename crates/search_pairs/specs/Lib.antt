pub mod Memo
pub mod Prepare
pub mod Ready
pub mod Steps
pub mod Lent
