-- The calls on a mounted volume: what each answers, row by row, and the state that it leaves.
pub mod Answers
pub mod Signed
pub mod Close
pub mod Stat
pub mod Read
pub mod Inside
pub mod Open
pub mod Opens
