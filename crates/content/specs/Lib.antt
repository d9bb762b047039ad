-- An inode's content, copied part by part.
pub mod Parts
