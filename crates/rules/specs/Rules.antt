-- The seven rules of a sound image. "Reading N" is the note of that number in docs/DECISIONS.md. S3 to S7 mean something where
-- S1 holds: they read the card by its superblock's numbers. Assumes nothing.
use Rattle.std.specs.Prelude.{◌≡◌, ◌≢◌, ◌⊎◌, List, ℕ, ◌≤◌, ◌<◌}
use Rattle.base.specs.Bytes.{Bytes}
use Rattle.base.specs.Number.{get}
use Rattle.superblock.specs.declared.Super.{Super}
use Rattle.superblock.specs.Geometry.{Good, data_start}
use Rattle.superblock.specs.Disk.{Disk}
use Rattle.rules.specs.Fit.{Fit, count, held}
use Rattle.rules.specs.Tree.{Tree, names, up, dots, SameName, GoodName, Listed, Reaches}

-- S1: the superblock is good, and the image has exactly its `size` blocks (reading 4: a length that is no whole number of blocks is not good).
-- Block 0, and block 1 past its eight numbers, may hold anything (reading 3).
pub record S1 (image : List ℕ) : Type 0 where
  pub good : Good image

-- S2: the log is empty: the header, in block 2, begins with the length 0.
pub record S2 (d : Bytes) : Type 0 where
  pub empty : get d 2048 4 ≡ 0

-- S3: inode 1 is a directory, and each of the inodes 1 to ninodes - 1 is free or fit. Inode 0, the bytes past the last inode and the rest of a free
-- one may hold anything (reading 3): a Disk reads each of the first two as a free inode, so that `each` asks nothing of them.
pub record S3 (g : Super) (v : Disk) : Type 0 where
  pub root : (v.ino 1).kind ≡ 1
  pub each : (i : ℕ) → ((v.ino i).kind ≡ 0) ⊎ Fit g v (v.ino i)

-- block b is held: by slot p of inode i, which is in use
pub record Holder (v : Disk) (b : ℕ) : Type 0 where
  pub i : ℕ
  pub p : ℕ
  pub live : p < count v i
  pub here : held v i p ≡ b

-- S4: no block is held twice, and a bit is set exactly for the blocks below the data area and the held blocks. Every bit of the bitmap's blocks is
-- meant, also those past `size` (reading 1).
pub record S4 (g : Super) (v : Disk) : Type 0 where
  pub once : (i j p q : ℕ) → p < count v i → q < count v j → held v i p ≡ held v j q → (i ≡ j) × (p ≡ q)
  pub low : (b : ℕ) → b < data_start g → v.bit b ≡ 1
  pub taken : (i p : ℕ) → p < count v i → v.bit (held v i p) ≡ 1
  pub only : (b : ℕ) → data_start g ≤ b → v.bit b ≡ 1 → Holder v b

-- directory i: entry 0 is "." naming itself and entry 1 is ".."; every other live entry (number not 0) names a used inode by a good name; and no
-- name stands twice among all its live entries, "." and ".." with them (reading 6). What ".." names is left to S6.
pub record Dir (t : Tree) (i : ℕ) : Type 0 where
  pub self : t.num i 0 ≡ i
  pub self_name : SameName (t.name i 0) (dots 1)
  pub up_name : SameName (t.name i 1) (dots 2)
  pub live : (k : ℕ) → 2 ≤ k → t.num i k ≢ 0 → 1 ≤ t.kind (t.num i k)
  pub named : (k : ℕ) → 2 ≤ k → t.num i k ≢ 0 → GoodName (t.name i k)
  pub once : (k l : ℕ) → t.num i k ≢ 0 → t.num i l ≢ 0 → SameName (t.name i k) (t.name i l) → k ≡ l

-- S5: so it is in each directory.
pub record S5 (t : Tree) : Type 0 where
  pub each : (i : ℕ) → t.kind i ≡ 1 → Dir t i

-- a directory other than inode 1: exactly one entry that is not "." or ".." names it; that entry is in the directory that its ".." names, and
-- this is a directory (reading 5); and following ".." reaches inode 1
pub record Below (g : Super) (t : Tree) (i : ℕ) : Type 0 where
  pub one : names g t i ≡ 1
  pub parent : t.kind (up t i) ≡ 1
  pub listed : Listed t (up t i) i
  pub reaches : Reaches t i

-- S6: no entry but "." and ".." names inode 1, whose ".." is itself; and every other directory is in its place.
pub record S6 (g : Super) (t : Tree) : Type 0 where
  pub root_up : up t 1 ≡ 1
  pub root_once : names g t 1 ≡ 0
  pub below : (i : ℕ) → t.kind i ≡ 1 → i ≢ 1 → Below g t i

-- S7: nlink is 1 for inode 1, 2 for every other directory, and for a file or device the number of its entries, at least 1. It is an i16, so that
-- a file with more than 32,767 entries has no right nlink (reading 6a).
pub record S7 (g : Super) (t : Tree) : Type 0 where
  pub root : t.nlink 1 ≡ 1
  pub dirs : (i : ℕ) → t.kind i ≡ 1 → i ≢ 1 → t.nlink i ≡ 2
  pub others : (i : ℕ) → 2 ≤ t.kind i → (t.nlink i ≡ names g t i) × (1 ≤ t.nlink i) × (t.nlink i ≤ 32767)
