-- S6 as the code tests it.
pub mod Reach
pub mod Climb
