pub mod Ports
pub mod Pulse
