-- Counts of entries, and S7 as the code tests it.
pub mod Counts
