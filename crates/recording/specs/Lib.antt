-- Recording blocks for the next commit, and changing recorded ones.
pub mod Record
pub mod One
pub mod All
pub mod Grow
pub mod Steps
pub mod Store
