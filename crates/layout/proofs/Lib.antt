-- The root of the laws.
pub mod Laying
pub mod Agreeing
