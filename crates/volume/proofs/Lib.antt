-- Where read is done.
pub mod ReadTold
