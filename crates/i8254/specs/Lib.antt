pub mod Channels
pub mod Control
pub mod Forecasts
pub mod Ports
pub mod Views
