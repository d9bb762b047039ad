-- Handle slots.
pub mod Handles
pub mod Keeps
