pub mod Ports
pub mod Wave
