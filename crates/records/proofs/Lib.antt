-- The root of the laws.
pub mod Copying
pub mod Room
pub mod Joining
pub mod Filling
pub mod Layouts
pub mod RuleSaid
pub mod Judging
pub mod Alike
pub mod Gathering
pub mod Controls
