-- What the checker's steps say, and that its verdict is the only one that fits.
pub mod Judge
