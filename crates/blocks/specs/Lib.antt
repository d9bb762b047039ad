-- S3 and S4 as the code tests them.
pub mod Fits
pub mod Marks
