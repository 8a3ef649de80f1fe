pub mod Bytes
pub mod Driven
pub mod Lines
pub mod Requested
pub mod Searched
pub mod Standing
