-- The three calls that open, close and recover transactions: their rows, what each leaves, and the theorem of the pulled card about them.
pub mod Calls
pub mod Recorded
pub mod Turns
pub mod Kept
pub mod Afterwards
pub mod PulledCalls
pub mod Survive
pub mod Promises
