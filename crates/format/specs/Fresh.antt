-- What is read on a fresh card: its superblock's numbers, a good superblock, an empty log, and its Disk (one inode, the bits up to the root's block,
-- the root's block and zeros). Assumes nothing.
use Rattle.std.specs.Prelude.{◌≡◌, Bool, true, false, cond, ◌&&◌, List, [], ◌∷◌, get_or, length, ltb}
use Rattle.std.proofs.Math.Path.{refl, ap, fun_ext}
use Rattle.std.proofs.Common.{sym, ◌∙◌, subst, arith, pow-suc, pow_pos, lt-ltb, le-ltb}
use Prim.Native.Nat.{ℕ, zero, suc, ◌+◌, ◌-◌, ◌*◌, ◌/◌, ◌%◌, ◌^◌, ◌≤◌, ◌<◌, min}
use Rattle.std.proofs.Math.Decide.{ℕ_discrete, dec_lt}
use Rattle.std.proofs.Math.Pow.{pow-lt}
use Rattle.base.specs.Bytes.{Bytes, bytes, put, put_block, put_in, put_out, put-at}
use Rattle.base.specs.Number.{digit_lt, le, le_cong, digit, le-digit, get}
use Rattle.base.specs.Bit.{bit_at}
use Rattle.base.specs.Update.{upd, upd_same, upd_other}
use Rattle.superblock.specs.declared.Super.{Super}
use Rattle.superblock.specs.Geometry.{GoodNumbers, Good, super_of, bits, bitmap_blocks, data_start, inode_addr}
use Rattle.superblock.specs.Node.{Node, node_in, no_node, encoded, Fits}
use Rattle.superblock.specs.Record.{Small, put_small, encoded-small}
use Rattle.superblock.specs.Entry.{entry_bytes-small, padded-small, entry_bytes, entry_at, entry_at_put, entry_moved, padded-length}
use Rattle.superblock.specs.Disk.{Disk, ino_of, bit_of, mem_of, disk}
use Rattle.superblock.specs.Stores.{ino_of_cong, disk_ino, disk_mem}
use Rattle.format.specs.Formatted.{put_super, put_root_node, put_bits, words, super_words, ones, root_node, root_block, dot, dotdot, zeros, fresh}
use Rattle.format.specs.Laws.{word_byte}

-- the Disk of a fresh card
abbrev pub fresh_disk : Super → Disk
fresh_disk s = record {
  ino = upd (λ i. no_node) 1 (root_node (data_start s));
  bit = λ b. cond (ltb b (data_start s + 1)) 1 0;
  mem = put_block zeros (data_start s) root_block;
}

-- ---- small facts

le_zero : (n : ℕ) → le n zeros ≡ 0
unfolding le
le_zero zero = refl
le_zero (suc n) = omega (arith, le_zero n)

same_if : (t : Bool) (x : ℕ) → cond t x x ≡ x
same_if true x = refl
same_if false x = refl

node-zeros : node_in zeros ≡ no_node
unfolding node_in no_node
node-zeros = λ i. record {
  kind = le_zero 2 i;
  major = le_zero 2 i;
  minor = le_zero 2 i;
  nlink = le_zero 2 i;
  size = le_zero 4 i;
  addr = λ p. (ap (λ (x : ℕ). cond (ltb p 13) x 0) (le_zero 4) ∙ same_if (ltb p 13) 0) i;
}

bit_zero : (k : ℕ) → bit_at 0 k ≡ 0
unfolding bit_at
bit_zero zero = refl
bit_zero (suc k) = bit_zero k

-- the m lowest bits of a number are set, and no other
bit_low : (m k : ℕ) → bit_at (2 ^ m - 1) k ≡ cond (ltb k m) 1 0
unfolding bit_at
bit_low zero k = bit_zero k ∙ sym (rw (le-ltb k 0 (omega arith)))
bit_low (suc m) zero =
    let e : (2 ^ suc m - 1) % 2 ≡ 1 = omega (arith, pow-suc 2 m, pow_pos m) in
    e ∙ sym (rw (lt-ltb 0 (suc m) (omega arith)))
bit_low (suc m) (suc k) =
    let e : (2 ^ suc m - 1) / 2 ≡ 2 ^ m - 1 = omega (arith, pow-suc 2 m, pow_pos m) in
    ap (λ (x : ℕ). bit_at x k) e ∙ bit_low m k ∙ go (dec_lt k m)
  where
    go : Dec (k < m) → ◌≡◌ {A = ℕ} (cond (ltb k m) 1 0) (cond (ltb (suc k) (suc m)) 1 0)
    go (yes h) = rw (lt-ltb k m h, lt-ltb (suc k) (suc m) (omega arith))
    go (no h) = rw (le-ltb k m (omega arith), le-ltb (suc k) (suc m) (omega arith))

-- bit b of a bitmap whose first n bits are set
pub bit_ones : (n b : ℕ) → bit_at (ones n (b / 8)) (b % 8) ≡ cond (ltb b n) 1 0
unfolding ones
bit_ones n b = bit_low (min 8 (n - 8 * (b / 8))) (b % 8) ∙ go (dec_lt b n)
  where
    go : Dec (b < n) → ◌≡◌ {A = ℕ} (cond (ltb (b % 8) (min 8 (n - 8 * (b / 8)))) 1 0) (cond (ltb b n) 1 0)
    go (yes h) = rw (lt-ltb b n h, lt-ltb (b % 8) (min 8 (n - 8 * (b / 8))) (omega arith))
    go (no h) = rw (le-ltb b n (omega arith), le-ltb (b % 8) (min 8 (n - 8 * (b / 8))) (omega arith))

zero_ino : (s : Super) (i : ℕ) → ino_of s zeros i ≡ no_node
unfolding ino_of
zero_ino s i = ap (λ (r : Node). cond (ltb 0 i && ltb i s.ninodes) r no_node) node-zeros ∙ go (ltb 0 i && ltb i s.ninodes)
  where
    go : (t : Bool) → cond t no_node no_node ≡ no_node
    go true = refl
    go false = refl

-- ---- the parts of a fresh card

module _ (s : Super) (g : GoodNumbers s) where
  d₁ : Bytes
  d₁ = put zeros 1024 32 (words (super_words s))

  d₂ : Bytes
  d₂ = put d₁ (inode_addr s 1) 64 (encoded (root_node (data_start s)))

  d₃ : Bytes
  d₃ = put d₂ (s.bmapstart * 1024) (bitmap_blocks s * 1024) (ones (data_start s + 1))

  fresh_is : fresh s ≡ put d₃ (data_start s * 1024) 1024 root_block
  unfolding fresh d₁ d₂ d₃
  fresh_is = refl

  root_fits : Fits (root_node (data_start s))
  root_fits = record {
    kind = omega arith;
    major = omega arith;
    minor = omega arith;
    nlink = omega arith;
    size = omega arith;
    addr = λ p h. go p (ℕ_discrete p 0);
    none = λ p h. upd_other (λ p. 0) 0 (data_start s) p (omega arith);
  }
    where
      go : (p : ℕ) → Dec (p ≡ 0) → upd (λ p. 0) 0 (data_start s) p < 4294967296
      go p (yes e) = rw (e, upd_same (λ p. 0) 0 (data_start s)) (omega (arith, g.laid.nblocks, g.size_most))
      go p (no e) = rw (upd_other (λ p. 0) 0 (data_start s) p e) (omega arith)

  -- before anything but the superblock is written there is no inode
  none₁ : (i : ℕ) → ino_of s d₁ i ≡ no_node
  unfolding d₁
  none₁ i = ino_of_cong s d₁ zeros i (λ l m k h. put_out zeros 1024 32 (words (super_words s)) (inode_addr s i + k) (λ p q. omega (arith, g.laid.inodestart, g.log_least))) ∙ zero_ino s i

  ino₂ : ino_of s d₂ ≡ upd (λ i. no_node) 1 (root_node (data_start s))
  unfolding d₂
  ino₂ = ap (λ (v : Disk). v.ino) (disk_ino s g.laid d₁ 1 (root_node (data_start s)) (omega arith) (omega (arith, g.inodes_least)) root_fits)
      ∙ ap (λ (f : ℕ → Node). upd f 1 (root_node (data_start s))) (fun_ext none₁)

  ino₃ : ino_of s d₃ ≡ upd (λ i. no_node) 1 (root_node (data_start s))
  unfolding d₃
  ino₃ = fun_ext (λ i. ino_of_cong s d₃ d₂ i (λ l m k h. put_out d₂ (s.bmapstart * 1024) (bitmap_blocks s * 1024) (ones (data_start s + 1)) (inode_addr s i + k) (λ p q. omega (arith, g.laid.bmapstart))))
      ∙ ino₂

  bit₃ : (b : ℕ) → bit_of s d₃ b ≡ cond (ltb b (data_start s + 1)) 1 0
  unfolding bit_of d₃
  bit₃ b = elim (dec_lt b (bits s)) [
    | yes h ↦ rw (lt-ltb b (bits s) h)
        (ap (λ (x : ℕ). bit_at x (b % 8)) (put-at d₂ (s.bmapstart * 1024) (bitmap_blocks s * 1024) (ones (data_start s + 1)) (b / 8) (omega arith)) ∙ bit_ones (data_start s + 1) b)
    | no h ↦ rw (le-ltb b (bits s) (omega arith)) (sym (rw (le-ltb b (data_start s + 1) (omega (arith, g.laid.nblocks, g.laid.some)))))
  ]

  -- all is zero from data start on, before the root's block is written
  rest₃ : (x : ℕ) → data_start s * 1024 ≤ x → d₃ x ≡ 0
  unfolding d₁ d₂ d₃
  rest₃ x h =
      put_out d₂ (s.bmapstart * 1024) (bitmap_blocks s * 1024) (ones (data_start s + 1)) x (λ p q. omega arith)
      ∙ put_out d₁ (inode_addr s 1) 64 (encoded (root_node (data_start s))) x (λ p q. omega (arith, g.laid.bmapstart))
      ∙ put_out zeros 1024 32 (words (super_words s)) x (λ p q. omega (arith, g.laid.bmapstart, g.laid.inodestart))

  mem₃ : mem_of s d₃ ≡ zeros
  unfolding mem_of
  mem₃ = fun_ext λ x. elim (dec_lt x (data_start s * 1024)) [
    | yes h ↦ rw (lt-ltb x (data_start s * 1024) h)
    | no h ↦ rw (le-ltb x (data_start s * 1024) (omega arith)) (rest₃ x (omega arith))
  ]

  -- what a fresh card says
  pub disk-fresh : disk s (fresh s) ≡ fresh_disk s
  disk-fresh =
      ap (disk s) fresh_is ∙ disk_mem s g.laid d₃ (data_start s * 1024) 1024 root_block (omega arith)
      ∙ λ i. record { ino = ino₃ i; bit = fun_ext bit₃ i; mem = ap (λ (d : Bytes). put d (data_start s * 1024) 1024 root_block) mem₃ i }

  -- below the inodes there is only the superblock
  low : (x : ℕ) → x < s.inodestart * 1024 → fresh s x ≡ d₁ x
  unfolding d₂ d₃
  low x h =
      ap (λ (d : Bytes). d x) fresh_is
      ∙ put_out d₃ (data_start s * 1024) 1024 root_block x (λ p q. omega (arith, g.laid.bmapstart))
      ∙ put_out d₂ (s.bmapstart * 1024) (bitmap_blocks s * 1024) (ones (data_start s + 1)) x (λ p q. omega (arith, g.laid.bmapstart))
      ∙ put_out d₁ (inode_addr s 1) 64 (encoded (root_node (data_start s))) x (λ p q. omega arith)

  -- the log is empty, all of it zero
  pub log_fresh : (x : ℕ) → 2048 ≤ x → x < s.inodestart * 1024 → fresh s x ≡ 0
  unfolding d₁
  log_fresh x h l = low x l ∙ put_out zeros 1024 32 (words (super_words s)) x (λ p q. omega arith)

  -- word k of the superblock
  word_fresh : (k : ℕ) → k < 8 → get_or (super_words s) k 0 < 4294967296 → get (fresh s) (1024 + 4 * k) 4 ≡ get_or (super_words s) k 0
  unfolding d₁
  word_fresh k h f =
      le_cong 4 (λ j. fresh s (1024 + 4 * k + j)) (digit (get_or (super_words s) k 0))
      (λ j m. low (1024 + 4 * k + j) (omega (arith, g.laid.inodestart))
      ∙ put_in zeros 1024 32 (words (super_words s)) (1024 + 4 * k + j) (omega arith) (omega arith)
      ∙ ap (words (super_words s)) (omega arith) ∙ word_byte (super_words s) k j m)
      ∙ le-digit 4 (get_or (super_words s) k 0) f

  -- the numbers that were written are read
  pub super_fresh : super_of (fresh s) ≡ s
  super_fresh = λ i. record {
    size = word_fresh 1 (omega arith) (omega (arith, g.size_most)) i;
    nblocks = word_fresh 2 (omega arith) (omega (arith, g.laid.nblocks, g.size_most)) i;
    ninodes = word_fresh 3 (omega arith) (omega (arith, g.inodes_most)) i;
    nlog = word_fresh 4 (omega arith) (omega (arith, g.log_most)) i;
    inodestart = word_fresh 6 (omega arith) (omega (arith, g.laid.inodestart, g.log_most)) i;
    bmapstart = word_fresh 7 (omega arith) (omega (arith, g.laid.nblocks, g.size_most)) i;
  }

  -- an image that is a fresh card has a good superblock
  pub good_fresh : (image : List ℕ) → bytes image ≡ fresh s → length image ≡ s.size * 1024 → Good image
  good_fresh image e l = record {
    magic = ap (λ (d : Bytes). get d 1024 4) e ∙ word_fresh 0 (omega arith) (omega arith);
    logstart = ap (λ (d : Bytes). get d 1044 4) e ∙ word_fresh 5 (omega arith) (omega arith);
    numbers = subst (λ (n : Super). GoodNumbers n) (sym (ap super_of e ∙ super_fresh)) g;
    whole = l ∙ sym (ap (λ (d : Bytes). get d 1028 4 * 1024) e ∙ ap (λ (n : ℕ). n * 1024) (word_fresh 1 (omega arith) (omega (arith, g.size_most))));
  }

-- ---- the root's block

-- its first entry is ".", its second "..", and the others are zeros
pub root-dot : entry_at root_block 0 ≡ dot
unfolding root_block
root-dot =
    entry_moved (put (put zeros 0 16 (entry_bytes dot)) 16 16 (entry_bytes dotdot)) (put zeros 0 16 (entry_bytes dot)) 0 16
    (λ i h. put_out (put zeros 0 16 (entry_bytes dot)) 16 16 (entry_bytes dotdot) i (λ p q. omega arith) ∙ ap (put zeros 0 16 (entry_bytes dot)) (omega arith)) 0 (omega arith)
    ∙ entry_at_put zeros 0 dot (omega arith) (padded-length (46 ∷ []))

pub root-dotdot : entry_at root_block 16 ≡ dotdot
unfolding root_block
root-dotdot = entry_at_put (put zeros 0 16 (entry_bytes dot)) 16 dotdot (omega arith) (padded-length (46 ∷ 46 ∷ []))

pub root-rest : (x : ℕ) → 32 ≤ x → root_block x ≡ 0
unfolding root_block
root-rest x h =
    put_out (put zeros 0 16 (entry_bytes dot)) 16 16 (entry_bytes dotdot) x (λ p q. omega arith)
    ∙ put_out zeros 0 16 (entry_bytes dot) x (λ p q. omega arith)

-- ---- every byte of a fresh card is a byte

words_small : (l : List ℕ) → Small (words l)
unfolding words
words_small l k = digit_lt (get_or l (k / 4) 0) (k % 4)

ones_small : (n : ℕ) → Small (ones n)
unfolding ones
ones_small n k = go (dec_lt (n - 8 * k) 8)
  where
    go : Dec (n - 8 * k < 8) → 2 ^ min 8 (n - 8 * k) - 1 < 256
    go (yes h) = let e : min 8 (n - 8 * k) ≡ n - 8 * k = omega arith in rw e (let l : 2 ^ (n - 8 * k) < 256 = pow-lt h in omega arith)
    go (no h) = let e : min 8 (n - 8 * k) ≡ 8 = omega arith in rw e (omega arith)

dot-small : Small (bytes (46 ∷ []))
dot-small zero = omega arith
dot-small (suc k) = omega arith

dotdot-small : Small (bytes (46 ∷ 46 ∷ []))
dotdot-small zero = omega arith
dotdot-small (suc zero) = omega arith
dotdot-small (suc (suc k)) = omega arith

root-small : Small root_block
unfolding root_block
root-small =
    put_small (put zeros 0 16 (entry_bytes dot)) 16 16 (entry_bytes dotdot)
    (put_small zeros 0 16 (entry_bytes dot) (λ x. omega arith) (entry_bytes-small dot (padded-small (46 ∷ []) dot-small)))
    (entry_bytes-small dotdot (padded-small (46 ∷ 46 ∷ []) dotdot-small))

pub fresh-small : (s : Super) → Small (fresh s)
unfolding fresh
fresh-small s =
    put_small (put_bits s (put_root_node s (put_super s zeros))) (data_start s * 1024) 1024 root_block
    (put_small (put_root_node s (put_super s zeros)) (s.bmapstart * 1024) (bitmap_blocks s * 1024) (ones (data_start s + 1))
    (put_small (put_super s zeros) (inode_addr s 1) 64 (encoded (root_node (data_start s)))
    (put_small zeros 1024 32 (words (super_words s)) (λ x. omega arith) (words_small (super_words s)))
    (encoded-small (root_node (data_start s))))
    (ones_small (data_start s + 1)))
    root-small
