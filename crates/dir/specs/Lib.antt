-- Directories: what a lookup finds, on the tree that a Disk shows, and how the code reads it.
pub mod Lookup
pub mod Entries
