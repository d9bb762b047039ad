-- What a card says, apart from where it says it: its inodes, its bits, and the bytes of its data area. What lies out of range reads as a constant
-- (a free inode, bit 0, byte 0), so that every change of a card is an equation between Disks. Assumes nothing.
use Rattle.std.specs.Prelude.{cond, ◌&&◌, ℕ, ◌+◌, ◌*◌, ◌%◌, ltb}
use Rattle.base.specs.Bytes.{Bytes, put}
use Rattle.base.specs.Bit.{bit_at}
use Rattle.base.specs.Update.{upd}
use Rattle.superblock.specs.Geometry.{Super, bits, data_start, inode_addr, bit_addr}
use Rattle.superblock.specs.Node.{Node, node_in, no_node}

-- `ino i` is inode i, and a free inode where there is none; `bit b` is bit b; `mem` is the image with all before the data area zero
pub record Disk : Type 0 where
  pub ino : ℕ → Node
  pub bit : ℕ → ℕ
  pub mem : Bytes

unfoldable pub ino_of : Super → Bytes → ℕ → Node
ino_of g d i = cond (ltb 0 i && ltb i g.ninodes) (node_in (λ k. d (inode_addr g i + k))) no_node

unfoldable pub bit_of : Super → Bytes → ℕ → ℕ
bit_of g d b = cond (ltb b (bits g)) (bit_at (d (bit_addr g b)) (b % 8)) 0

unfoldable pub mem_of : Super → Bytes → Bytes
mem_of g d x = cond (ltb x (data_start g * 1024)) 0 (d x)

abbrev pub disk : Super → Bytes → Disk
disk g d = record { ino = ino_of g d; bit = bit_of g d; mem = mem_of g d }

-- ---- the three changes of a disk

abbrev pub set_ino : Disk → ℕ → Node → Disk
set_ino v i r = record { ino = upd v.ino i r; bit = v.bit; mem = v.mem }

abbrev pub set_bit : Disk → ℕ → ℕ → Disk
set_bit v b t = record { ino = v.ino; bit = upd v.bit b t; mem = v.mem }

abbrev pub set_mem : Disk → ℕ → ℕ → Bytes → Disk
set_mem v a n f = record { ino = v.ino; bit = v.bit; mem = put v.mem a n f }
