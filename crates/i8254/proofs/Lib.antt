pub mod Lag
pub mod Standing
