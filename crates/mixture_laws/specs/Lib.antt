pub mod Cutting
pub mod Decoding
pub mod Lockstep
pub mod Exchanging
