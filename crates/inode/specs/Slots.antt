-- An inode's slots as the code reads and tests them, and what that says of the Disk. Assumes nothing.
use Rattle.std.specs.Prelude.{◌≡◌, refl, ◌⊎◌, ℕ, zero, suc, ◌+◌, ◌-◌, ◌*◌, ◌/◌, ◌%◌, ◌≤◌, ◌<◌, get_or}
use Rattle.std.proofs.Common.{sym, ap, ◌∙◌, inl, inr, lt-ltb, le-ltb}
use native.Mathlib.Omega.{arith}
use Rattle.std.proofs.Math.Decide.{dec_lt}
use Rattle.base.specs.Bytes.{Bytes}
use Rattle.base.specs.Number.{get, get_same_bytes, get_moved}
use Rattle.base.specs.Bit.{bit_at}
use Rattle.superblock.specs.declared.Super.{Super}
use Rattle.superblock.specs.Geometry.{data_start}
use Rattle.superblock.specs.Node.{Node, node}
use Rattle.superblock.specs.Disk.{mem_of}
use Rattle.superblock.specs.declared.Inode.{Inode}
use Rattle.rules.specs.Fit.{entry, slot, slot_of}

-- b is a data block whose bit is set in the bitmap m: `Taken`, of the bitmap's own bytes
pub record TakenBy (s : Super) (m : Bytes) (b : ℕ) : Type 0 where
  pub low : data_start s ≤ b
  pub high : b < s.size
  pub is_set : bit_at (m (b / 8)) (b % 8) ≡ 1

-- b as the address of content block p, of n: in use where p is below n, and 0 past that
pub record SlotGood (s : Super) (m : Bytes) (n p b : ℕ) : Type 0 where
  pub first : p < n → TakenBy s m b
  pub rest : n ≤ p → b ≡ 0

-- ---- the slots in a memory, and in the data area alone

module _ (r : Node) (d : Bytes) where
  pub slot_direct : (p : ℕ) → p < 13 → slot d r p ≡ r.addr p
  unfolding slot
  slot_direct p h = rw (lt-ltb p 13 h)

  pub slot-entry : (k : ℕ) → slot d r (13 + k) ≡ entry d (r.addr 12) k
  unfolding slot
  slot-entry k = let z : 13 + k - 13 ≡ k = omega arith in rw (le-ltb (13 + k) 13 (omega arith), z)

pub entry-none : (d : Bytes) (b k : ℕ) → b ≡ 0 → entry d b k ≡ 0
unfolding entry
entry-none d zero k e = refl
entry-none d (suc b) k e = absurd (omega arith)

pub entry-some : (d : Bytes) (b k : ℕ) → (b ≡ 0 → ⊥) → entry d b k ≡ get d (b * 1024 + 4 * k) 4
unfolding entry
entry-some d zero k e = absurd (e refl)
entry-some d (suc b) k e = refl

-- the data area reads as the memory does
pub mem_high : (s : Super) (d : Bytes) (x : ℕ) → data_start s * 1024 ≤ x → mem_of s d x ≡ d x
unfolding mem_of
mem_high s d x h = rw (le-ltb x (data_start s * 1024) h)

pub entry_mem : (s : Super) (d : Bytes) (b k : ℕ) → (b ≡ 0) ⊎ (data_start s ≤ b) → entry d b k ≡ entry (mem_of s d) b k
entry_mem s d b k (inl z) = entry-none d b k z ∙ sym (entry-none (mem_of s d) b k z)
entry_mem s d b k (inr h) =
    let n : b ≡ 0 → ⊥ = λ e. omega arith in
    entry-some d b k n
    ∙ get_same_bytes d (mem_of s d) (b * 1024 + 4 * k) 4 (λ j l. sym (mem_high s d (b * 1024 + 4 * k + j) (omega arith)))
    ∙ sym (entry-some (mem_of s d) b k n)

pub slot_mem : (s : Super) (d : Bytes) (r : Node) (p : ℕ) → (r.addr 12 ≡ 0) ⊎ (data_start s ≤ r.addr 12) → slot d r p ≡ slot (mem_of s d) r p
slot_mem s d r p h = elim (dec_lt p 13) [
  | yes l ↦ slot_direct r d p l ∙ sym (slot_direct r (mem_of s d) p l)
  | no l ↦ let z : p ≡ 13 + (p - 13) = omega arith in
      ap (slot d r) z ∙ slot-entry r d (p - 13) ∙ entry_mem s d (r.addr 12) (p - 13) h ∙ sym (ap (slot (mem_of s d) r) z ∙ slot-entry r (mem_of s d) (p - 13))
]

-- ---- file_block

module _ (d : Bytes) (f : Inode) (k : ℕ) where
  pub block_direct : k < 12 → get_or f.addrs k 0 ≡ slot d (node f) (slot_of k)
  block_direct h = let z : slot_of k ≡ k = omega arith in sym (ap (slot d (node f)) z ∙ slot_direct (node f) d k (omega arith))

  indirect : 12 ≤ k → slot d (node f) (slot_of k) ≡ entry d (get_or f.addrs 12 0) (k - 12)
  indirect h = let z : slot_of k ≡ 13 + (k - 12) = omega arith in ap (slot d (node f)) z ∙ slot-entry (node f) d (k - 12)

  pub block_none : 12 ≤ k → get_or f.addrs 12 0 ≡ 0 → 0 ≡ slot d (node f) (slot_of k)
  block_none h e = sym (indirect h ∙ entry-none d (get_or f.addrs 12 0) (k - 12) e)

  pub block_listed : (m : Bytes) (x : ℕ) → 12 ≤ k → k < 268 → (get_or f.addrs 12 0 ≡ 0 → ⊥)
      → ((i : ℕ) → i < 1024 → m i ≡ d (get_or f.addrs 12 0 * 1024 + i)) → x ≡ get m (4 * (k - 12)) 4 → x ≡ slot d (node f) (slot_of k)
  block_listed m x h l n same e =
      e ∙ get_moved m d (get_or f.addrs 12 0 * 1024) 1024 same (4 * (k - 12)) 4 (omega arith)
      ∙ sym (indirect h ∙ entry-some d (get_or f.addrs 12 0) (k - 12) n)
