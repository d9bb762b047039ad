-- A fit inode's content as the code reads it: byte by byte from the block that its slot names. Assumes nothing.
use Rattle.std.specs.Prelude.{◌≡◌, ◌⊎◌, ℕ, ◌+◌, ◌*◌, ◌/◌, ◌%◌, ◌≤◌, ◌<◌}
use Rattle.std.proofs.Common.{sym, ap, ◌∙◌, inl, inr, arith}
use Rattle.std.proofs.Math.Decide.{dec_lt}
use Rattle.base.specs.Bytes.{Bytes}
use Rattle.superblock.specs.declared.Super.{Super}
use Rattle.superblock.specs.Geometry.{data_start}
use Rattle.superblock.specs.Node.{Node}
use Rattle.superblock.specs.Disk.{disk, ino_of, mem_of}
use Rattle.rules.specs.Fit.{Taken, Fit, blocks, slots, slot, slot_of, byte_of}
use Rattle.inode.specs.Slots.{slot_direct, slot_mem, mem_high}

module _ (s : Super) (d : Bytes) (r : Node) (fit : Fit s (disk s d) r) where
  -- its indirect block is none or in the data area
  top : (r.addr 12 ≡ 0) ⊎ (data_start s ≤ r.addr 12)
  top = elim (dec_lt 12 (slots r.size)) [
    | yes h ↦ inr (rw (slot_direct r (mem_of s d) 12 (omega arith)) at (fit.first 12 h).low)
    | no h ↦ inl (sym (slot_direct r (mem_of s d) 12 (omega arith)) ∙ fit.rest 12 (omega arith) (omega arith))
  ]

  -- its slots in the memory are those of the Disk
  pub fit_slot : (p : ℕ) → slot d r p ≡ slot (mem_of s d) r p
  fit_slot p = slot_mem s d r p top

  -- the block of its kth kilobyte is a data block in use
  pub block-taken : (k : ℕ) → k < blocks r.size → Taken s (disk s d) (slot d r (slot_of k))
  block-taken k h = rw (fit_slot (slot_of k)) (fit.first (slot_of k) (omega arith))

  -- byte o of its content
  pub content : (i o : ℕ) → ino_of s d i ≡ r → o < r.size → byte_of (disk s d) i o ≡ d (slot d r (slot_of (o / 1024)) * 1024 + o % 1024)
  content i o e h =
      let t : Taken s (disk s d) (slot d r (slot_of (o / 1024))) = block-taken (o / 1024) (omega arith) in
      ap (λ (q : Node). mem_of s d (slot (mem_of s d) q (slot_of (o / 1024)) * 1024 + o % 1024)) e
      ∙ ap (λ (b : ℕ). mem_of s d (b * 1024 + o % 1024)) (sym (fit_slot (slot_of (o / 1024))))
      ∙ mem_high s d (slot d r (slot_of (o / 1024)) * 1024 + o % 1024) (omega (arith, t.low))
