-- An inode fetched through its block is the Disk's. Assumes nothing.
use Rattle.std.specs.Prelude.{◌≡◌, ℕ, ◌+◌, ◌*◌, ◌/◌, ◌%◌, ◌<◌}
use Rattle.std.proofs.Common.{sym, ap, ◌∙◌, arith, lt-ltb}
use Rattle.base.specs.Bytes.{Bytes}
use Rattle.superblock.specs.declared.Super.{Super}
use Rattle.superblock.specs.declared.Inode.{Inode}
use Rattle.superblock.specs.Geometry.{inode_addr}
use Rattle.superblock.specs.Node.{node, node_in, inode_at}
use Rattle.superblock.specs.Record.{node-inode_at, inode_moved}
use Rattle.superblock.specs.Disk.{ino_of}

-- the Disk's inode i, where there is one
pub ino_there : (s : Super) (d : Bytes) (i : ℕ) → 0 < i → i < s.ninodes → ino_of s d i ≡ node_in (λ k. d (inode_addr s i + k))
unfolding ino_of
ino_there s d i l h = rw (lt-ltb 0 i l, lt-ltb i s.ninodes h)

pub fetched : (s : Super) (d : Bytes) (i : ℕ) (r : Inode) → 0 < i → i < s.ninodes → r ≡ inode_at d (inode_addr s i) → node r ≡ ino_of s d i
fetched s d i r l h e = ap node e ∙ node-inode_at d (inode_addr s i) ∙ sym (ino_there s d i l h)

-- as the code reads it: at byte o of a block that is t
pub fetch : (s : Super) (d t : Bytes) (i b o : ℕ) (r : Inode) → b ≡ s.inodestart + i / 16 → o ≡ 64 * (i % 16)
    → ((k : ℕ) → k < 1024 → t k ≡ d (b * 1024 + k)) → r ≡ inode_at t o → r ≡ inode_at d (inode_addr s i)
fetch s d t i b o r hb ho same e = e ∙ inode_moved t d (b * 1024) 1024 same o (omega arith) ∙ ap (inode_at d) (omega arith)
