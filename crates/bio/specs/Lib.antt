-- The buffer table: which block is where, and what is seen through it.
pub mod Among
pub mod Seen
pub mod Low
pub mod Part
pub mod Take
pub mod Order
pub mod Mask
pub mod Fresh
pub mod Memory
