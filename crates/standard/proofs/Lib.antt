pub mod Carried
pub mod Fitted
