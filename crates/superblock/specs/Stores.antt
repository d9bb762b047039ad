-- What a store does to a card's Disk: a store of an inode, of a bit and of data bytes each change just that, for any number of bitmap blocks.
-- Assumes nothing.
use Rattle.std.specs.Prelude.{◌≡◌, refl, ◌&&◌, List, ℕ, ◌+◌, ◌*◌, ◌/◌, ◌%◌, ◌≤◌, ◌<◌, get_or, length, set}
use Rattle.std.proofs.Math.Path.{sym, ap, fun_ext}
use Rattle.std.proofs.Common.{◌∙◌, arith}
use Rattle.std.proofs.Math.Bool.{cond}
use Rattle.std.proofs.Math.Decide.{ℕ_discrete, dec_lt}
use Rattle.std.proofs.Math.Dec.{ltb}
use borrow.Author.Tests.{lt-ltb, le-ltb}
use Rattle.base.specs.Bytes.{Bytes, bytes, bytes-set, put, put_in, put_out, put-at}
use Rattle.base.specs.Bit.{bit_at, with_bit, bit_same, bit_other}
use Rattle.base.specs.Update.{upd, upd_same, upd_other}
use Rattle.superblock.specs.Geometry.{Super, Laid, bits, data_start, inode_addr, bit_addr}
use Rattle.superblock.specs.Node.{Node, node_in_cong, node_in-encoded, node_in_fits, Fits, if_cong, encoded, no_node}
use Rattle.superblock.specs.Disk.{ino_of, bit_of, mem_of, disk, set_ino, set_bit, set_mem}

-- ---- the image's bytes

abbrev pub put_inode : Super → Bytes → ℕ → Node → Bytes
put_inode g d i r = put d (inode_addr g i) 64 (encoded r)

abbrev pub put_bit : Super → Bytes → ℕ → ℕ → Bytes
put_bit g d b t = put d (bit_addr g b) 1 (λ _. with_bit (d (bit_addr g b)) (b % 8) t)

-- what each part of the disk reads
module _ (g : Super) (d e : Bytes) where
  pub ino_of_cong : (i : ℕ) → (0 < i → i < g.ninodes → (k : ℕ) → k < 64 → d (inode_addr g i + k) ≡ e (inode_addr g i + k)) → ino_of g d i ≡ ino_of g e i
  unfolding ino_of
  ino_of_cong i h = elim (dec_lt 0 i) [
    | yes l ↦ elim (dec_lt i g.ninodes) [
      | yes m ↦ ap (λ (r : Node). cond (ltb 0 i && ltb i g.ninodes) r no_node) (node_in_cong (λ k. d (inode_addr g i + k)) (λ k. e (inode_addr g i + k)) (h l m))
      | no m ↦ rw (lt-ltb 0 i l, le-ltb i g.ninodes (omega arith))
    ]
    | no l ↦ rw (le-ltb 0 i (omega arith))
  ]

  pub bit_of_cong : (b : ℕ) → (b < (bits g) → d (bit_addr g b) ≡ e (bit_addr g b)) → bit_of g d b ≡ bit_of g e b
  unfolding bit_of
  bit_of_cong b h = if_cong b (bits g) (bit_at (d (bit_addr g b)) (b % 8)) (bit_at (e (bit_addr g b)) (b % 8)) (λ l. ap (λ (x : ℕ). bit_at x (b % 8)) (h l))

  pub mem_of_cong : (x : ℕ) → (data_start g * 1024 ≤ x → d x ≡ e x) → mem_of g d x ≡ mem_of g e x
  unfolding mem_of
  mem_of_cong x h = elim (dec_lt x (data_start g * 1024)) [
    | yes l ↦ rw (lt-ltb x (data_start g * 1024) l)
    | no l ↦ ap (λ (y : ℕ). cond (ltb x (data_start g * 1024)) 0 y) (h (omega arith))
  ]

module _ (g : Super) (ok : Laid g) (d : Bytes) where
  ino_here : (i : ℕ) (r : Node) → 0 < i → i < g.ninodes → Fits r → ino_of g (put_inode g d i r) i ≡ r
  unfolding ino_of
  ino_here i r l m e = rw (lt-ltb 0 i l, lt-ltb i g.ninodes m)
      (node_in_cong (λ k. put d (inode_addr g i) 64 (encoded r) (inode_addr g i + k)) (encoded r) (put-at d (inode_addr g i) 64 (encoded r)) ∙ node_in-encoded r e)

  bit_there : (b t c : ℕ) → b < (bits g) → t < 2 → bit_of g (put_bit g d b t) c ≡ upd (bit_of g d) b t c
  unfolding bit_of
  bit_there b t c l m = elim (ℕ_discrete c b) [
    | yes z ↦ rw (z, upd_same, lt-ltb b (bits g) l, same b refl) (bit_same (d (bit_addr g b)) (b % 8) t m)
    | no z ↦ rw (upd_other) (elim (ℕ_discrete (c / 8) (b / 8)) [
      | yes y ↦ if_cong c (bits g) (bit_at (put_bit g d b t (bit_addr g c)) (c % 8)) (bit_at (d (bit_addr g c)) (c % 8))
          (λ _. rw (same c y, y) (bit_other (d (bit_addr g b)) (b % 8) t (c % 8) m (omega arith)))
      | no y ↦ bit_of_cong g (put_bit g d b t) d c λ h. put_out d (bit_addr g b) 1 f (bit_addr g c) (omega arith)
    ])
  ]
    where
      f : Bytes
      f = λ _. with_bit (d (bit_addr g b)) (b % 8) t

      same : (c : ℕ) → c / 8 ≡ b / 8 → put_bit g d b t (bit_addr g c) ≡ with_bit (d (bit_addr g b)) (b % 8) t
      same c y = put_in d (bit_addr g b) 1 f (bit_addr g c) (omega arith) (omega arith)

  mem_there : (a n : ℕ) (f : Bytes) (x : ℕ) → data_start g * 1024 ≤ a → mem_of g (put d a n f) x ≡ put (mem_of g d) a n f x
  unfolding mem_of
  mem_there a n f x l = elim (dec_lt x (data_start g * 1024)) [
    | yes h ↦ rw (lt-ltb x (data_start g * 1024) h) (sym (put_out (mem_of g d) a n f x (omega arith) ∙ rw (lt-ltb x (data_start g * 1024) h)))
    | no h ↦ rw (le-ltb x (data_start g * 1024) (omega arith)) (elim (dec_lt x a) [
      | yes k ↦ put_out d a n f x (omega arith) ∙ sym (put_out (mem_of g d) a n f x (omega arith) ∙ low h)
      | no k ↦ elim (dec_lt x (a + n)) [
        | yes j ↦ put_in d a n f x (omega arith) j ∙ sym (put_in (mem_of g d) a n f x (omega arith) j)
        | no j ↦ put_out d a n f x (omega arith) ∙ sym (put_out (mem_of g d) a n f x (omega arith) ∙ low h)
      ]
    ])
  ]
    where
      low : ¬ (x < data_start g * 1024) → mem_of g d x ≡ d x
      low h = rw (le-ltb x (data_start g * 1024) (omega arith))

  pub disk_ino : (i : ℕ) (r : Node) → 0 < i → i < g.ninodes → Fits r → disk g (put_inode g d i r) ≡ set_ino (disk g d) i r
  disk_ino i r l m e = λ t. record { ino = fun_ext ino' t; bit = fun_ext bit' t; mem = fun_ext mem' t }
    where
      ino' : (j : ℕ) → ino_of g (put_inode g d i r) j ≡ upd (ino_of g d) i r j
      ino' j = elim (ℕ_discrete j i) [
        | yes z ↦ rw (z, upd_same) (ino_here i r l m e)
        | no z ↦ rw (upd_other)
            (ino_of_cong g (put_inode g d i r) d j λ l₀ l₁ k h. put_out d (inode_addr g i) 64 (encoded r) (inode_addr g j + k) (omega arith))
      ]

      bit' : (b : ℕ) → bit_of g (put_inode g d i r) b ≡ bit_of g d b
      bit' b = bit_of_cong g (put_inode g d i r) d b λ h. put_out d (inode_addr g i) 64 (encoded r) (bit_addr g b) (omega arith)

      mem' : (x : ℕ) → mem_of g (put_inode g d i r) x ≡ mem_of g d x
      mem' x = mem_of_cong g (put_inode g d i r) d x λ h. put_out d (inode_addr g i) 64 (encoded r) x (omega arith)

  pub disk_bit : (b t : ℕ) → b < (bits g) → t < 2 → disk g (put_bit g d b t) ≡ set_bit (disk g d) b t
  disk_bit b t l m = λ z. record { ino = fun_ext ino' z; bit = fun_ext bit' z; mem = fun_ext mem' z }
    where
      f : Bytes
      f = λ _. with_bit (d (bit_addr g b)) (b % 8) t

      ino' : (j : ℕ) → ino_of g (put_bit g d b t) j ≡ ino_of g d j
      ino' j = ino_of_cong g (put_bit g d b t) d j λ l₀ l₁ k h. put_out d (bit_addr g b) 1 f (inode_addr g j + k) (omega arith)

      bit' : (c : ℕ) → bit_of g (put_bit g d b t) c ≡ upd (bit_of g d) b t c
      bit' c = bit_there b t c l m

      mem' : (x : ℕ) → mem_of g (put_bit g d b t) x ≡ mem_of g d x
      mem' x = mem_of_cong g (put_bit g d b t) d x λ h. put_out d (bit_addr g b) 1 f x (omega arith)

  pub disk_mem : (a n : ℕ) (f : Bytes) → data_start g * 1024 ≤ a → disk g (put d a n f) ≡ set_mem (disk g d) a n f
  disk_mem a n f l = λ t. record { ino = fun_ext ino' t; bit = fun_ext bit' t; mem = fun_ext mem' t }
    where
      ino' : (j : ℕ) → ino_of g (put d a n f) j ≡ ino_of g d j
      ino' j = ino_of_cong g (put d a n f) d j λ l₀ l₁ k h. put_out d a n f (inode_addr g j + k) (omega arith)

      bit' : (b : ℕ) → bit_of g (put d a n f) b ≡ bit_of g d b
      bit' b = bit_of_cong g (put d a n f) d b λ h. put_out d a n f (bit_addr g b) (omega arith)

      mem' : (x : ℕ) → mem_of g (put d a n f) x ≡ put (mem_of g d) a n f x
      mem' x = mem_there a n f x l

-- ---- as the code's facts read

pub code_bit_of : (g : Super) (l : List ℕ) (b r : ℕ) → b < (bits g) → r ≡ bit_at (get_or l (bit_addr g b) 0) (b % 8) → r ≡ bit_of g (bytes l) b
unfolding bit_of
code_bit_of g l b r h e = rw (lt-ltb b (bits g) h) e

pub code_put_bit : (g : Super) (l : List ℕ) (b r t : ℕ) → bit_addr g b < length l → r ≡ with_bit (get_or l (bit_addr g b) 0) (b % 8) t
    → bytes (set l (bit_addr g b) r) ≡ put_bit g (bytes l) b t
code_put_bit g l b r t h e = rw e (bytes-set l (bit_addr g b) (with_bit (get_or l (bit_addr g b) 0) (b % 8) t) h)

pub ino_of_fits : (g : Super) (d : Bytes) (i : ℕ) → ((x : ℕ) → d x < 256) → Fits (ino_of g d i)
unfolding ino_of no_node
ino_of_fits g d i h = elim (dec_lt 0 i) [
  | yes l ↦ elim (dec_lt i g.ninodes) [
    | yes m ↦ rw (lt-ltb 0 i l, lt-ltb i g.ninodes m) (node_in_fits (λ k. d (inode_addr g i + k)) (λ k. h (inode_addr g i + k)))
    | no m ↦ rw (lt-ltb 0 i l, le-ltb i g.ninodes (omega arith)) free
  ]
  | no l ↦ rw (le-ltb 0 i (omega arith)) free
]
  where
    free : Fits no_node
    free = record { kind = omega arith; major = omega arith; minor = omega arith; nlink = omega arith; size = omega arith; addr = λ p _. omega arith; none = λ p _. refl }
