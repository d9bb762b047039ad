-- A card given as bytes, for the table of cases (crate `cases`): two files in the root. Assumes nothing.
use Rattle.std.specs.Prelude.{cond, List, [], ◌∷◌, ℕ, ◌+◌, ◌*◌, eqb}
use Rattle.base.specs.Bytes.{Bytes, bytes, put}
use Rattle.superblock.specs.declared.Super.{Super}
use Rattle.superblock.specs.Node.{Node, encoded}

-- case 1's numbers
unfoldable pub numbers : Super
numbers = record { size = 64; nblocks = 29; ninodes = 16; nlog = 30; inodestart = 32; bmapstart = 34 }

-- the root, a directory of one block, and an empty file
unfoldable pub root : Node
root = record { kind = 1; major = 0; minor = 0; nlink = 1; size = 1024; addr = λ p. cond (eqb p 0) 35 0 }

unfoldable pub file : Node
file = record { kind = 2; major = 0; minor = 0; nlink = 1; size = 0; addr = λ p. 0 }

-- "abcdefghijklmn", 14 bytes
unfoldable pub letters : List ℕ → List ℕ
letters l = 97 ∷ 98 ∷ 99 ∷ 100 ∷ 101 ∷ 102 ∷ 103 ∷ 104 ∷ 105 ∷ 106 ∷ 107 ∷ 108 ∷ 109 ∷ 110 ∷ l

-- inodes 1, 2 and 3 in block 32, the bitmap in block 34, and in block 35 the entries ".", "..", "a" (inode 2) and "abcdefghijklmn" (inode 3)
unfoldable pub inodes : Bytes
inodes = put (put (put (λ x. 0) (32 * 1024 + 64) 64 (encoded root)) (32 * 1024 + 128) 64 (encoded file)) (32 * 1024 + 192) 64 (encoded file)

unfoldable pub bitmap : Bytes
bitmap = put inodes (34 * 1024) 5 (bytes (255 ∷ 255 ∷ 255 ∷ 255 ∷ 15 ∷ []))

unfoldable pub card : Bytes
card =
    put (put (put (put bitmap (35 * 1024) 16 (bytes (1 ∷ 0 ∷ 46 ∷ []))) (35 * 1024 + 16) 16 (bytes (1 ∷ 0 ∷ 46 ∷ 46 ∷ [])))
    (35 * 1024 + 32) 16 (bytes (2 ∷ 0 ∷ 97 ∷ []))) (35 * 1024 + 48) 16 (bytes (3 ∷ 0 ∷ letters []))
