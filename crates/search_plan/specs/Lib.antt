pub mod Steps
pub mod Order
pub mod Asked
pub mod Sets
pub mod Plans
