-- What each byte of a card means: geometry, the inode record, the directory entry, and the card as inodes, bits and data.
pub mod Geometry
pub mod Node
pub mod Record
pub mod Entry
pub mod Blank
pub mod Disk
pub mod Stores
pub mod FieldStores
pub mod Kind
