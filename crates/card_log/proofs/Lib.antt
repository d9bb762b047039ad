-- The theorems about a commit's writes: the pulled card, what a commit leaves alone, and the marked case.
pub mod Crash
pub mod Kept
pub mod Cases
