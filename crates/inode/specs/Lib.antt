-- Inodes as a volume sees them: what is lent, an inode fetched, its slots, and fitness as a test.
pub mod Lent
pub mod Fetch
pub mod Slots
pub mod Tail
pub mod Fitness
pub mod FitOf
pub mod Content
