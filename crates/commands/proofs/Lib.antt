pub mod Digits
pub mod Splitting
pub mod Steps
pub mod Spelling
pub mod Lines
pub mod RoundTrip
