pub mod Order
pub mod Nodes
pub mod Waiting
pub mod Writes
