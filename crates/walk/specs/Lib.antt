-- The walk of a path: one step, the walk to the inode that a path names, and the walk to its parent.
pub mod Step
pub mod Walks
pub mod Parents
pub mod Reached
pub mod Ends
pub mod Cases
pub mod Agree
