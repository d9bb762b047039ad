-- The log: its numbered writes, the theorem of the pulled card, and the laws that the code's proofs and other crates cite.
pub mod Words
pub mod Journal
pub mod PulledCard
pub mod Installing
pub mod Headers
pub mod Crash
pub mod Kept
pub mod Cases
