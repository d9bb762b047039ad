-- The state of a volume, and when it is whole.
pub mod Whole
pub mod Marks
pub mod Slots
pub mod Card
pub mod Given
