-- Where things are on a card: the superblock's numbers, when they are good, and the addresses that follow from them.
-- Block 0 is boot, block 1 the superblock, then log, inodes, bitmap, data. Assumes nothing.
use Rattle.std.specs.Prelude.{◌≡◌, List, ℕ, ◌+◌, ◌*◌, ◌/◌, ◌%◌, ◌≤◌, length}
pub use Rattle.superblock.specs.declared.Super.{Super}
use Rattle.base.specs.Bytes.{Bytes, bytes}
use Rattle.base.specs.Number.{get}

-- how many bits the bitmap's blocks hold, and how many blocks that is
abbrev pub bitmap_blocks : Super → ℕ
bitmap_blocks s = s.size / 8192 + 1

abbrev pub bits : Super → ℕ
bits s = bitmap_blocks s * 8192

-- the first block of the data area
abbrev pub data_start : Super → ℕ
data_start s = s.bmapstart + s.size / 8192 + 1

-- the areas follow each other
pub record Laid (s : Super) : Type 0 where
  pub inodestart : s.inodestart ≡ 2 + s.nlog
  pub bmapstart : s.bmapstart ≡ s.inodestart + s.ninodes / 16 + 1
  pub nblocks : s.nblocks + data_start s ≡ s.size
  pub some : 1 ≤ s.nblocks

-- the numbers are good: they are laid out so, and within their limits
pub record GoodNumbers (s : Super) : Type 0 where
  pub laid : Laid s
  pub log_least : 12 ≤ s.nlog
  pub log_most : s.nlog ≤ 30
  pub inodes_least : 2 ≤ s.ninodes
  pub inodes_most : s.ninodes ≤ 65535
  pub size_most : s.size ≤ 8191

-- the numbers in block 1 of a card; logstart and the magic number are fixed, and not among them
abbrev pub super_of : Bytes → Super
super_of d = record {
  size = get d 1028 4;
  nblocks = get d 1032 4;
  ninodes = get d 1036 4;
  nlog = get d 1040 4;
  inodestart = get d 1048 4;
  bmapstart = get d 1052 4;
}

-- a card has a good superblock
pub record Good (image : List ℕ) : Type 0 where
  pub magic : get (bytes image) 1024 4 ≡ 0x10203040
  pub logstart : get (bytes image) 1044 4 ≡ 2
  pub numbers : GoodNumbers (super_of (bytes image))
  pub whole : length image ≡ get (bytes image) 1028 4 * 1024

-- inode i: its block, and the byte in it
abbrev pub inode_block : Super → ℕ → ℕ
inode_block s i = s.inodestart + i / 16

abbrev pub inode_byte : ℕ → ℕ
inode_byte i = 64 * (i % 16)

-- its address on the card
abbrev pub inode_addr : Super → ℕ → ℕ
inode_addr s i = s.inodestart * 1024 + 64 * i

-- bit b: the address of its byte; it is bit b mod 8 there
abbrev pub bit_addr : Super → ℕ → ℕ
bit_addr s b = s.bmapstart * 1024 + b / 8
