-- The words of every specification of the project: memory, numbers, bits, searches, tests, refusals, runs.
pub mod First
pub mod Bytes
pub mod Number
pub mod Bit
pub mod Update
pub mod Decide
pub mod Pigeon
pub mod Rows
pub mod Refusals
pub mod Run
