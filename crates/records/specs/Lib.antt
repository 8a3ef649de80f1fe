pub mod Records
pub mod Reading
pub mod Encoding
