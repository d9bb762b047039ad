-- The table of the marked cases is right.
pub mod Right
