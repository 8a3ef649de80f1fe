pub mod Bag
pub mod Heaps
pub mod Leading
pub mod Order
pub mod Sifts
