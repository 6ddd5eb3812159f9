-- The root of the definitions.
pub mod Pieces
pub mod Rooms
pub mod Keyed
pub mod Normals
pub mod Claims
