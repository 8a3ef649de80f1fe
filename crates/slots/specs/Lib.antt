pub mod Offsets
pub mod Slots
