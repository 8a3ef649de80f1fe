pub mod Driving
pub mod Jump
pub mod Advances
pub mod Handings
