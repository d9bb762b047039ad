-- The tree that a Disk shows: kinds, link counts and directory entries. What S5 to S7 speak of; blocks and bits are no part of it. Assumes nothing.
use Rattle.std.specs.Prelude.{◌≡◌, ◌≢◌, Bool, cond, ◌&&◌, ℕ, zero, suc, ◌+◌, ◌*◌, ◌≤◌, ◌<◌, leb, ltb, eqb}
use Rattle.base.specs.Bytes.{Bytes}
use Rattle.base.specs.First.{sum_to}
use Rattle.superblock.specs.declared.Super.{Super}
use Rattle.superblock.specs.Disk.{Disk}
use Rattle.rules.specs.Fit.{byte_of}

-- `num i k` is the inode number in entry k of directory i, `name i k t` byte t of its name; all are 0 where there is no such entry
pub record Tree : Type 0 where
  pub kind : ℕ → ℕ
  pub nlink : ℕ → ℕ
  pub num : ℕ → ℕ → ℕ
  pub name : ℕ → ℕ → ℕ → ℕ

-- inode i is a directory with an entry k: entries have 16 bytes
abbrev pub is_entry : Disk → ℕ → ℕ → Bool
is_entry v i k = eqb (v.ino i).kind 1 && ltb (16 * k) (v.ino i).size

-- the number in its first two bytes
unfoldable pub num_of : Disk → ℕ → ℕ → ℕ
num_of v i k = cond (is_entry v i k) (byte_of v i (16 * k) + 256 * byte_of v i (16 * k + 1)) 0

-- the name in the other 14
unfoldable pub name_of : Disk → ℕ → ℕ → ℕ → ℕ
name_of v i k t = cond (is_entry v i k) (cond (ltb t 14) (byte_of v i (16 * k + 2 + t)) 0) 0

abbrev pub tree : Disk → Tree
tree v = record { kind = λ i. (v.ino i).kind; nlink = λ i. (v.ino i).nlink; num = num_of v; name = name_of v }

-- ---- names

-- n dots, then zeros: "." and ".."
unfoldable pub dots : ℕ → ℕ → ℕ
dots n t = cond (ltb t n) 46 0

-- all 14 bytes agree
abbrev pub SameName : Bytes → Bytes → Type 0
SameName f h = (t : ℕ) → t < 14 → f t ≡ h t

-- a first byte that is not 0, no "/" (47), zeros after the first zero
pub record GoodName (f : Bytes) : Type 0 where
  pub some : f 0 ≢ 0
  pub no_slash : (t : ℕ) → t < 14 → f t ≢ 47
  pub padded : (s t : ℕ) → s < t → t < 14 → f s ≡ 0 → f t ≡ 0

-- ---- entries other than "." and "..", which are 0 and 1

-- 1 if entry k of directory j is such an entry and names inode i, else 0
unfoldable pub tally : Tree → ℕ → ℕ → ℕ → ℕ
tally t i j k = cond (leb 2 k && eqb (t.num j k) i) 1 0

-- how many such entries of directory j name inode i; a directory has at most 274,432 / 16 = 17,152 entries
abbrev pub names_in : Tree → ℕ → ℕ → ℕ
names_in t i j = sum_to 17152 (tally t i j)

-- how many of all directories do
abbrev pub names : Super → Tree → ℕ → ℕ
names g t i = sum_to g.ninodes (names_in t i)

-- such an entry of directory j names inode i
pub record Listed (t : Tree) (j i : ℕ) : Type 0 where
  pub entry : ℕ
  pub past : 2 ≤ entry
  pub here : t.num j entry ≡ i

-- ---- following ".."

abbrev pub up : Tree → ℕ → ℕ
up t i = t.num i 1

-- f, n times
unfoldable pub follow : (ℕ → ℕ) → ℕ → ℕ → ℕ
follow f zero i = i
follow f (suc n) i = follow f n (f i)

-- ".." from i on reaches inode 1
pub record Reaches (t : Tree) (i : ℕ) : Type 0 where
  pub depth : ℕ
  pub there : follow (up t) depth i ≡ 1
