pub mod Fitting
pub mod Notes
