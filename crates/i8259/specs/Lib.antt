pub mod ChipView
pub mod Priority
pub mod Views
