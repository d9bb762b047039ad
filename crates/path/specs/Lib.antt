-- Paths: how long one is, its components, and the 14 bytes of a name.
pub mod Search
pub mod Parts
pub mod Names
pub mod Cut
