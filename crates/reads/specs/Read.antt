-- The parts of a disk as the code reads them. Assumes nothing.
use Rattle.std.specs.Prelude.{◌≡◌, ◌⊎◌, ◌&&◌, ltb, cond, Option, MatchOption}
use Rattle.std.proofs.Math.Path.{refl, ap}
use Rattle.std.proofs.Common.{sym, ◌∙◌, inl, inr}
use Prim.Native.Nat.{ℕ, zero, suc, ◌+◌, ◌-◌, ◌*◌, ◌/◌, ◌%◌, ◌≤◌, ◌<◌}
use native.Mathlib.Omega.{arith}
use native.Mathlib.Decide.{dec_lt}
use borrow.Author.Tests.{lt-ltb, le-ltb, eq-eqb, ne_eqb}
use Rattle.base.specs.Bytes.{Bytes, bytes}
use Rattle.base.specs.Number.{le, le_cong, get, get_two}
use Rattle.base.specs.Bit.{bit_at}
use Rattle.superblock.specs.declared.Super.{Super}
use Rattle.reads.specs.declared.Card.{Card}
use Rattle.superblock.specs.Geometry.{bits, data_start, inode_addr, bit_addr}
use Rattle.superblock.specs.Node.{Node, node_in, no_node}
use Rattle.superblock.specs.Disk.{Disk, disk, ino_of, bit_of, mem_of}
use Rattle.rules.specs.Fit.{Fit, entry, slot, held, slot_of, byte_of}
use Rattle.rules.specs.Tree.{is_entry, num_of, name_of}
use Rattle.rules.specs.Rules.{S3}

-- what a card shows
abbrev pub shown : Card → Disk
shown c = disk c.sb (bytes c.image.now)

-- r is x, and below n
pub record Is (r x n : ℕ) : Type 0 where
  pub eq : r ≡ x
  pub lt : r < n

pub is_to : {r x n : ℕ} (y : ℕ) → Is r x n → x ≡ y → Is r y n
is_to y h e = record { eq = h.eq ∙ e; lt = h.lt }

-- there is an inode i, at address a
pub record There (g : Super) (i a : ℕ) : Type 0 where
  pub eq : a ≡ inode_addr g i
  pub low : 1 ≤ i
  pub high : i < g.ninodes

-- its address, or none
abbrev pub InodeAt : Super → ℕ → Option ℕ → Type 0
InodeAt g i r = MatchOption r (1 ≤ i → g.ninodes ≤ i) (There g i)

-- n bytes of inode i from o on, 0 where there is no inode i
unfoldable pub field : Super → Bytes → ℕ → ℕ → ℕ → ℕ
field g d i o n = cond (ltb 0 i && ltb i g.ninodes) (get d (inode_addr g i + o) n) 0

module _ (g : Super) (d : Bytes) (i : ℕ) where
  pub field_there : (a o n m r : ℕ) → There g i a → r ≡ get d (a + o) n → r < m → Is r (field g d i o n) m
  unfolding field
  field_there a o n m r h e l = record { eq = rw (lt-ltb 0 i h.low, lt-ltb i g.ninodes h.high, ← h.eq) e; lt = l }

  pub field_none : (o n m : ℕ) → 0 < m → (1 ≤ i → g.ninodes ≤ i) → Is 0 (field g d i o n) m
  unfolding field
  field_none o n m l h = record {
    eq = elim (dec_lt 0 i) [ yes p ↦ rw (lt-ltb 0 i p, le-ltb i g.ninodes (h p)) refl | no p ↦ rw (le-ltb 0 i (omega arith)) refl ];
    lt = l;
  }

  -- there is no inode i
  pub ino_none : (1 ≤ i → g.ninodes ≤ i) → ino_of g d i ≡ no_node
  unfolding ino_of
  ino_none h = elim (dec_lt 0 i) [
    | yes p ↦ rw (lt-ltb 0 i p, le-ltb i g.ninodes (h p))
    | no p ↦ rw (le-ltb 0 i (omega arith))
  ]

  pub kind_none : (1 ≤ i → g.ninodes ≤ i) → (ino_of g d i).kind ≡ 0
  unfolding no_node
  kind_none h = ap (λ (r : Node). r.kind) (ino_none h)

  -- a used inode is there
  pub kind_in : 1 ≤ (ino_of g d i).kind → (0 < i) × (i < g.ninodes)
  kind_in h = elim (dec_lt 0 i) [
    | yes p ↦ elim (dec_lt i g.ninodes) [ yes q ↦ (p, q) | no q ↦ absurd (omega (arith, kind_none (λ _. omega arith))) ]
    | no p ↦ absurd (omega (arith, kind_none (λ l. absurd (omega arith))))
  ]

  -- the n bytes at o of inode i are its field f
  module _ (f : Node → ℕ) (o n : ℕ) (here : (b : Bytes) → get b o n ≡ f (node_in b)) where
    read_at : (a : ℕ) → There g i a → get d (a + o) n ≡ f (ino_of g d i)
    unfolding ino_of
    read_at a h =
        rw (h.eq, lt-ltb 0 i h.low, lt-ltb i g.ninodes h.high)
        (le_cong n (λ k. d (inode_addr g i + o + k)) (λ k. d (inode_addr g i + (o + k))) (λ k l. ap d (omega arith)) ∙ here (λ k. d (inode_addr g i + k)))

  module _ (a r : ℕ) (h : There g i a) where
    pub read_kind : r ≡ get d a 2 → r < 65536 → Is r (ino_of g d i).kind 65536
    unfolding node_in
    read_kind e l = record { eq = e ∙ ap (λ (x : ℕ). get d x 2) (omega arith) ∙ read_at (λ r. r.kind) 0 2 (λ b. refl) a h; lt = l }

    pub read_nlink : r ≡ get d (a + 6) 2 → r < 65536 → Is r (ino_of g d i).nlink 65536
    unfolding node_in
    read_nlink e l = record { eq = e ∙ read_at (λ r. r.nlink) 6 2 (λ b. refl) a h; lt = l }

    pub read_size : r ≡ get d (a + 8) 4 → r < 4294967296 → Is r (ino_of g d i).size 4294967296
    unfolding node_in
    read_size e l = record { eq = e ∙ read_at (λ r. r.size) 8 4 (λ b. refl) a h; lt = l }

    pub read_addr : (p : ℕ) → p < 13 → r ≡ get d (a + 12 + 4 * p) 4 → r < 4294967296 → Is r ((ino_of g d i).addr p) 4294967296
    unfolding node_in
    read_addr p k e l = record { eq = e ∙ ap (λ (x : ℕ). get d x 4) (omega arith) ∙ read_at (λ r. r.addr p) (12 + 4 * p) 4 (λ b. rw (lt-ltb p 13 k)) a h; lt = l }

  -- a field of no inode is 0
  pub read_none : (f : Node → ℕ) (m : ℕ) → f no_node ≡ 0 → 0 < m → (1 ≤ i → g.ninodes ≤ i) → Is 0 (f (ino_of g d i)) m
  read_none f m z l h = record { eq = sym (ap f (ino_none h) ∙ z); lt = l }

-- the data area

module _ (g : Super) (d : Bytes) where
  mem_low : (x : ℕ) → x < data_start g * 1024 → mem_of g d x ≡ 0
  unfolding mem_of
  mem_low x h = rw (lt-ltb x (data_start g * 1024) h)

  mem_high : (x : ℕ) → data_start g * 1024 ≤ x → mem_of g d x ≡ d x
  unfolding mem_of
  mem_high x h = rw (le-ltb x (data_start g * 1024) h)

  entry_zero : (b k : ℕ) → b < data_start g → k < 256 → entry (mem_of g d) b k ≡ 0
  unfolding entry le
  entry_zero zero k h l = refl
  entry_zero (suc b) k h l =
      le_cong 4 (λ j. mem_of g d (suc b * 1024 + 4 * k + j)) (λ j. 0) (λ j m. mem_low (suc b * 1024 + 4 * k + j) (omega arith))

  pub entry_low : (b k : ℕ) → b < data_start g → k < 256 → Is 0 (entry (mem_of g d) b k) 4294967296
  entry_low b k h l = record { eq = sym (entry_zero b k h l); lt = omega arith }

  pub entry_high : (b k r : ℕ) → 0 < data_start g → data_start g ≤ b → Is r (get d (b * 1024 + 4 * k) 4) 4294967296 → Is r (entry (mem_of g d) b k) 4294967296
  unfolding entry
  entry_high zero k r p h e = absurd (omega arith)
  entry_high (suc b) k r p h e = is_to _ e
      (sym (le_cong 4 (λ j. mem_of g d (suc b * 1024 + 4 * k + j)) (λ j. d (suc b * 1024 + 4 * k + j)) (λ j m. mem_high (suc b * 1024 + 4 * k + j) (omega arith))))

  pub slot_direct : (i p r : ℕ) → p < 13 → Is r ((ino_of g d i).addr p) 4294967296 → Is r (slot (mem_of g d) (ino_of g d i) p) 4294967296
  unfolding slot
  slot_direct i p r h e = rw (lt-ltb p 13 h) e

  pub slot-entry : (i p b r : ℕ) → 13 ≤ p → Is b ((ino_of g d i).addr 12) 4294967296 → Is r (entry (mem_of g d) b (p - 13)) 4294967296 → Is r (slot (mem_of g d) (ino_of g d i) p) 4294967296
  unfolding slot
  slot-entry i p b r h a e = rw (le-ltb p 13 h, ← a.eq) e

  pub bit_is : (b r v : ℕ) → b < bits g → v ≡ d (bit_addr g b) → r ≡ bit_at v (b % 8) → r ≡ bit_of g d b
  unfolding bit_of
  bit_is b r v h e q = q ∙ rw (lt-ltb b (bits g) h, e)

-- ---- directory entries

-- entry k of directory i stands at address a of the memory d
pub record Spot (d : Bytes) (v : Disk) (i k a : ℕ) : Type 0 where
  pub num : get d a 2 ≡ num_of v i k
  pub name : (t : ℕ) → t < 14 → d (a + 2 + t) ≡ name_of v i k t
  pub small : a < 4398046511104

module _ (v : Disk) (i k : ℕ) where
  pub entry_other : (x : ℕ) → ((v.ino i).kind ≡ 1 → ⊥) → 0 ≡ cond (is_entry v i k) x 0
  entry_other x h = rw (ne_eqb (v.ino i).kind 1 h)

  pub entry_past : (x : ℕ) → (v.ino i).size ≤ 16 * k → 0 ≡ cond (is_entry v i k) x 0
  entry_past x h = elim (native.Mathlib.Decide.ℕ_discrete (v.ino i).kind 1) [
    | yes e ↦ rw (eq-eqb (v.ino i).kind 1 e, le-ltb (16 * k) (v.ino i).size h)
    | no e ↦ entry_other x e
  ]

  pub entry_here : (x : ℕ) → (v.ino i).kind ≡ 1 → 16 * k < (v.ino i).size → x ≡ cond (is_entry v i k) x 0
  entry_here x e h = rw (eq-eqb (v.ino i).kind 1 e, lt-ltb (16 * k) (v.ino i).size h)

  module _ (d : ℕ) (a : Is d (v.ino i).kind 65536) where
    pub num_other : (d ≡ 1 → ⊥) → Is 0 (num_of v i k) 65536
    unfolding num_of
    num_other h = record { eq = entry_other _ (λ e. h (a.eq ∙ e)); lt = omega arith }

    module _ (s : ℕ) (b : Is s (v.ino i).size 4294967296) where
      pub num_past : s ≤ 16 * k → Is 0 (num_of v i k) 65536
      unfolding num_of
      num_past h = record { eq = entry_past _ (omega (arith, b.eq)); lt = omega arith }

      pub num_here : (m : Bytes) (p r : ℕ) → Spot m v i k p → Is r (get m p 2) 65536 → Is r (num_of v i k) 65536
      num_here m p r h q = is_to _ q h.num

-- the block b of the slot that has entry k, of a fit directory
module _ (g : Super) (d : Bytes) (i k p b : ℕ) (s3 : S3 g (disk g d)) (dir : (ino_of g d i).kind ≡ 1) (some : 16 * k < (ino_of g d i).size)
    (e : p ≡ slot_of (16 * k / 1024)) (h : Is b (held (disk g d) i p) 4294967296) where
  fit : ((ino_of g d i).kind ≡ 0) ⊎ Fit g (disk g d) (ino_of g d i) → Fit g (disk g d) (ino_of g d i)
  fit (inl z) = absurd (omega arith)
  fit (inr f) = f

  low : data_start g ≤ b
  low = omega (arith, h.eq, ((fit (s3.each i)).first p (omega arith)).low)

  byte_at : (t : ℕ) → t < 16 → byte_of (disk g d) i (16 * k + t) ≡ d (b * 1024 + 16 * k % 1024 + t)
  byte_at t l =
      let q : (16 * k + t) / 1024 ≡ 16 * k / 1024 = omega arith in
      let m : (16 * k + t) % 1024 ≡ 16 * k % 1024 + t = omega arith in
      rw (q, m, ← e, ← h.eq) (mem_high g d (b * 1024 + (16 * k % 1024 + t)) (omega (arith, low)) ∙ ap d (omega arith))

  pub spot_is : Spot d (disk g d) i k (b * 1024 + 16 * k % 1024)
  unfolding num_of name_of
  spot_is = record { num = numbered; name = named; small = omega (arith, h.lt) }
    where
      numbered : get d (b * 1024 + 16 * k % 1024) 2 ≡ num_of (disk g d) i k
      numbered =
          let z : byte_of (disk g d) i (16 * k) ≡ d (b * 1024 + 16 * k % 1024 + 0) = ap (byte_of (disk g d) i) (omega arith) ∙ byte_at 0 (omega arith) in
          get_two d (b * 1024 + 16 * k % 1024) ∙ rw (← z, ← byte_at 1 (omega arith)) (entry_here (disk g d) i k _ dir some)

      named : (t : ℕ) → t < 14 → d (b * 1024 + 16 * k % 1024 + 2 + t) ≡ name_of (disk g d) i k t
      named t l =
          let z : byte_of (disk g d) i (16 * k + 2 + t) ≡ d (b * 1024 + 16 * k % 1024 + 2 + t) = ap (byte_of (disk g d) i) (omega arith) ∙ byte_at (2 + t) (omega arith) ∙ ap d (omega arith) in
          sym z ∙ rw (lt-ltb t 14 l) (entry_here (disk g d) i k (byte_of (disk g d) i (16 * k + 2 + t)) dir some)

-- a number past the entries is 0
pub num_gone : (v : Disk) (i k : ℕ) → (v.ino i).size ≤ 16 * k → num_of v i k ≡ 0
unfolding num_of
num_gone v i k h = sym (entry_past v i k _ h)

pub num_file : (v : Disk) (i k : ℕ) → ((v.ino i).kind ≡ 1 → ⊥) → num_of v i k ≡ 0
unfolding num_of
num_file v i k h = sym (entry_other v i k _ h)

-- directory i has n entries
pub record Ends (v : Disk) (i n : ℕ) : Type 0 where
  pub most : n ≤ 17152
  pub gone : (k : ℕ) → n ≤ k → num_of v i k ≡ 0

module _ (v : Disk) (i d : ℕ) (a : Is d (v.ino i).kind 65536) where
  pub ends-none : (d ≡ 1 → ⊥) → Ends v i 0
  ends-none h = record { most = omega arith; gone = λ k l. num_file v i k (λ e. h (a.eq ∙ e)) }

  pub ends-here : (g : Super) (s : ℕ) → S3 g v → d ≡ 1 → Is s (v.ino i).size 4294967296 → Ends v i (s / 16)
  ends-here g s s3 e b = go (s3.each i)
    where
      go : ((v.ino i).kind ≡ 0) ⊎ Fit g v (v.ino i) → Ends v i (s / 16)
      go (inl z) = absurd (omega (arith, a.eq))
      go (inr f) =
          let q = (f.shape.dir (sym a.eq ∙ e)).1 in
          record { most = omega (arith, f.shape.small, b.eq); gone = λ k l. num_gone v i k (omega (arith, b.eq)) }
