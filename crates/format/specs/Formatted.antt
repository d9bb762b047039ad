-- A freshly formatted card, byte for byte: what mkfs writes when it is given no files. Assumes nothing.
use Rattle.std.specs.Prelude.{List, [], ◌∷◌, ℕ, ◌+◌, ◌-◌, ◌*◌, ◌/◌, ◌%◌, ◌^◌, min, get_or}
use Rattle.base.specs.Bytes.{Bytes, put, put_block}
use Rattle.base.specs.Number.{digit}
use Rattle.base.specs.Update.{upd}
use Rattle.superblock.specs.declared.Super.{Super}
use Rattle.superblock.specs.Geometry.{bitmap_blocks, data_start, inode_addr}
use Rattle.superblock.specs.Node.{Node, encoded}
use Rattle.superblock.specs.declared.Entry.{Entry}
use Rattle.superblock.specs.Entry.{entry_bytes, padded}

-- the superblock's numbers of a card of so many blocks, inodes and log blocks
abbrev pub numbers_of : ℕ → ℕ → ℕ → Super
numbers_of size ninodes nlog = record {
  size = size;
  nblocks = size - (2 + nlog + ninodes / 16 + 1 + size / 8192 + 1);
  ninodes = ninodes;
  nlog = nlog;
  inodestart = 2 + nlog;
  bmapstart = 2 + nlog + ninodes / 16 + 1;
}

-- u32 numbers one after the other
unfoldable pub words : List ℕ → Bytes
words l k = digit (get_or l (k / 4) 0) (k % 4)

-- the superblock: the magic number, size, nblocks, ninodes, nlog, logstart, inodestart, bmapstart
abbrev pub super_words : Super → List ℕ
super_words s = 0x10203040 ∷ s.size ∷ s.nblocks ∷ s.ninodes ∷ s.nlog ∷ 2 ∷ s.inodestart ∷ s.bmapstart ∷ []

-- a bitmap whose first n bits are set: byte k has as many of them as there are left past 8 k, at most 8
unfoldable pub ones : ℕ → Bytes
ones n k = 2 ^ min 8 (n - 8 * k) - 1

-- the root directory, its one block b
abbrev pub root_node : ℕ → Node
root_node b = record { kind = 1; major = 0; minor = 0; nlink = 1; size = 1024; addr = upd (λ p. 0) 0 b }

-- "." and "..", both the root itself
abbrev pub dot : Entry
dot = record { inum = 1; name = padded (46 ∷ []) }

abbrev pub dotdot : Entry
dotdot = record { inum = 1; name = padded (46 ∷ 46 ∷ []) }

-- nothing but zeros
abbrev pub zeros : Bytes
zeros = λ x. 0

-- the root directory's block
unfoldable pub root_block : Bytes
root_block = put (put zeros 0 16 (entry_bytes dot)) 16 16 (entry_bytes dotdot)

-- each part of a fresh card, put where it belongs: the superblock's numbers in block 1
abbrev pub put_super : Super → Bytes → Bytes
put_super s d = put d 1024 32 (words (super_words s))

-- the root directory as inode 1
abbrev pub put_root_node : Super → Bytes → Bytes
put_root_node s d = put d (inode_addr s 1) 64 (encoded (root_node (data_start s)))

-- the bitmap: the bits of all blocks up to the root's
abbrev pub put_bits : Super → Bytes → Bytes
put_bits s d = put d (s.bmapstart * 1024) (bitmap_blocks s * 1024) (ones (data_start s + 1))

-- the root directory's block at data start
abbrev pub put_root_block : Super → Bytes → Bytes
put_root_block s d = put_block d (data_start s) root_block

-- a fresh card with these numbers: the four parts, and all else is zero
unfoldable pub fresh : Super → Bytes
fresh s = put_root_block s (put_bits s (put_root_node s (put_super s zeros)))

-- the image that format leaves
abbrev pub formatted : ℕ → ℕ → ℕ → Bytes
formatted size ninodes nlog = fresh (numbers_of size ninodes nlog)
