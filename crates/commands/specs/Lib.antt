pub mod Words
pub mod Numbers
pub mod Meaning
pub mod Grammar
pub mod Reading
pub mod Reasons
