-- Distinct block numbers of one inode.
pub mod Apart
