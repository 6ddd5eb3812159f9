-- The root of the definitions.
pub mod Columns
pub mod Lending
