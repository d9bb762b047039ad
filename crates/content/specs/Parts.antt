-- An inode's content as it is copied: each byte from the block that its slot names, in parts that end where a block does. Assumes nothing.
use Rattle.std.specs.Prelude.{◌≡◌, ℕ, ◌+◌, ◌-◌, ◌*◌, ◌/◌, ◌%◌, ◌≤◌, ◌<◌, min, length}
use Rattle.std.proofs.Common.{sym, ap, ◌∙◌, arith}
use Rattle.base.specs.Bytes.{Bytes, put, put_same, put_more}
use Rattle.superblock.specs.declared.Super.{Super}
use Rattle.superblock.specs.declared.Inode.{Inode}
use Rattle.superblock.specs.Node.{Node, node}
use Rattle.bio.specs.declared.Seen.{Seen}
use Rattle.bio.specs.Memory.{memory}
use Rattle.rules.specs.Fit.{Fit, slot, slot_of, blocks as blocks_of}
use Rattle.inode.specs.Lent.{Lent, disk_by}
use Rattle.inode.specs.Content.{block-taken}

-- byte o of the content of the inode r in the memory d
abbrev pub content_at : Bytes → Node → ℕ → ℕ
content_at d r o = d (slot d r (slot_of (o / 1024)) * 1024 + o % 1024)

-- what copying asks: 30 buffers, a size within the limit, and each of the inode's blocks on the card
pub record Readable (card : Seen) (f : Inode) : Type 0 where
  pub buffers : length card.cache.now ≡ 30720
  pub small : f.size ≤ 274432
  pub inside : (k : ℕ) → k < blocks_of f.size → slot (memory card) (node f) (slot_of k) * 1024 + 1024 ≤ length card.image.now

-- m bytes of r's content from byte at on were put at place p of the buffer: n of them, or fewer where the block ends sooner
pub record Part (d : Bytes) (r : Node) (at p n : ℕ) (was is : Bytes) (m : ℕ) : Type 0 where
  pub count : m ≡ min n (1024 - at % 1024)
  pub filled : is ≡ put was p m (λ k. content_at d r (at + k))

-- a fit inode is readable
pub fit_readable : (s : Super) (card : Seen) (f : Inode) → Lent s card.image.now card.cache.now → Fit s (disk_by s card) (node f) → Readable card f
fit_readable s card f l t = record {
  buffers = l.buffers;
  small = t.shape.small;
  inside = λ k h. omega (arith, (block-taken s (memory card) (node f) t k h).high, l.card);
}

module _ (d : Bytes) (r : Node) where
  -- bytes of one block
  pub one_block : (at b : ℕ) (t : Bytes) (k : ℕ) → b ≡ slot d r (slot_of (at / 1024)) → ((i : ℕ) → i < 1024 → t i ≡ d (b * 1024 + i)) → at % 1024 + k < 1024
      → t (at % 1024 + k) ≡ content_at d r (at + k)
  one_block at b t k e same h =
      let q : (at + k) / 1024 ≡ at / 1024 = omega arith in
      let m : (at + k) % 1024 ≡ at % 1024 + k = omega arith in
      same (at % 1024 + k) h ∙ ap (λ (x : ℕ). d (x * 1024 + (at % 1024 + k))) e ∙ sym (rw (q, m))

  pub part_of : (at p n m b : ℕ) (t was is : Bytes) → m ≡ min n (1024 - at % 1024) → b ≡ slot d r (slot_of (at / 1024)) → ((i : ℕ) → i < 1024 → t i ≡ d (b * 1024 + i))
      → is ≡ put was p m (λ k. t (at % 1024 + k)) → Part d r at p n was is m
  part_of at p n m b t was is e eb same h = record {
    count = e;
    filled = h ∙ put_same was p m (λ k. t (at % 1024 + k)) (λ k. content_at d r (at + k)) (λ k l. one_block at b t k eb same (omega arith));
  }

  -- a turn of the loop
  pub more : (offset p n m : ℕ) (was mid is : Bytes) → mid ≡ put was 0 p (λ k. content_at d r (offset + k)) → Part d r (offset + p) p n mid is m
      → is ≡ put was 0 (p + m) (λ k. content_at d r (offset + k))
  more offset p n m was mid is h q =
      q.filled ∙ ap (λ (x : Bytes). put x p m (λ k. content_at d r (offset + p + k))) h
      ∙ put_more was 0 p p m (λ k. content_at d r (offset + k)) (λ k. content_at d r (offset + p + k)) (omega arith) (λ j l. ap (content_at d r) (omega arith))
