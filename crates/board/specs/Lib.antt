pub mod Answers
pub mod Deadlines
pub mod Placing
pub mod Quiet
pub mod Steps
pub mod View
pub mod Wiring
