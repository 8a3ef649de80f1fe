pub mod Called
pub mod Carrying
pub mod Fresh
pub mod Progressing
pub mod Stillness
pub mod Wiring
