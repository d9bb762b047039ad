-- S5 as the code tests it.
pub mod Names
