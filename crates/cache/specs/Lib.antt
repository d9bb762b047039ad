-- The buffer cache standing alone: its tables, its four calls with their rows of refusals, and what the calls keep.
pub mod Tables
pub mod Front
pub mod Calls
pub mod Steps
pub mod Keeps
pub mod Stays
pub mod Boot
