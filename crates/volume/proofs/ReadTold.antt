-- Where read is done: the bytes of the content as it is seen, and the buffer past them (the definitions: specs/Read.antt). It stands here, and not in
-- specs/, so that an edit of `read_into` is refused by these theorems. Assumes nothing.
use Rattle.std.specs.Prelude.{◌≡◌, List, ℕ, ◌+◌, ◌-◌, ◌≤◌, min, length}
use Rattle.std.proofs.Common.{ap, ◌∙◌, arith, inr}
use Rattle.base.specs.Bytes.{Bytes, bytes, put, put_same}
use Rattle.superblock.specs.declared.Inode.{Inode}
use Rattle.superblock.specs.Geometry.{inode_addr}
use Rattle.superblock.specs.Node.{node, inode_at}
use Rattle.rules.specs.Fit.{Fit}
use Rattle.walk.specs.Step.{From}
use Rattle.content.specs.Parts.{content_at}
use Rattle.state.specs.Whole.{Whole}
use Rattle.state.specs.declared.Volume.{Volume}
use Rattle.state.specs.declared.Handle.{Handle}
use Rattle.slots.specs.Handles.{GoodHandle}
use Rattle.volume.specs.Answers.{done, disk_of}
use Rattle.volume.specs.Read.{ReadLeft, read_count, read_into, ReadGives}
use Rattle.volume.specs.Inside.{memory, from, fit_inode, kind_is, size_is, byte_is}

module _ (v : Volume) (image cache : List ℕ) (h : Handle) (f : Inode) (from : From v.sb h.inum) (e : f ≡ inode_at (memory v cache image) (inode_addr v.sb h.inum)) where
  module _ (t : Fit v.sb (disk_of v cache image) (node f)) (offset count size n : ℕ) (sized : size ≡ f.size) (counted : n ≡ min count (size - offset)) where
    pub read_done : (was is : Bytes) → is ≡ put was 0 n (λ k. content_at (memory v cache image) (node f) (offset + k))
        → ◌≡◌ {A = ReadLeft} (v, done n, is) (v, done (read_count (disk_of v cache image) h.inum offset count), read_into (disk_of v cache image) h.inum offset (read_count (disk_of v cache image) h.inum offset count) was)
    read_done was is q =
        let z : n ≡ read_count (disk_of v cache image) h.inum offset count = omega (arith, size_is v image cache h f from e) in
        ap {B = ReadLeft} (λ (m : Bytes). (v, done n, m)) (q ∙ put_same was 0 n _ _ (byte_is v image cache h f from e t offset count size n sized counted))
        ∙ ap {B = ReadLeft} (λ (m : ℕ). (v, done m, read_into (disk_of v cache image) h.inum offset m was)) z

module _ (v : Volume) (image cache : List ℕ) (h : Handle) (f : Inode) (w : Whole v image) (c : length cache ≡ 30720) (g : GoodHandle v.slots.inums v.slots.refs h)
    (e : f ≡ inode_at (memory v cache image) (inode_addr v.sb h.inum)) where
  module _ (offset count : ℕ) (buffer : List ℕ) (b : count ≤ length buffer) where
    module _ (t : Fit v.sb (disk_of v cache image) (node f)) where
      pub read_told : (size n : ℕ) (is : Bytes) → (f.kind ≡ 3 → ⊥) → size ≡ f.size → offset ≤ size → n ≡ min count (size - offset)
          → is ≡ put (bytes buffer) 0 n (λ k. content_at (memory v cache image) (node f) (offset + k)) → ReadGives v image cache h offset count buffer (v, done n, is)
      read_told size n is k s l m q =
          inr (
            λ x. x w,
            inr (
              λ x. x c,
              inr (
                λ x. omega arith,
                inr (
                  λ x. x g,
                  inr (
                    λ x. x (fit_inode v image cache h f (from v image cache h f w c g e) e t),
                    inr (
                      λ x. k (kind_is v image cache h f (from v image cache h f w c g e) e ∙ x),
                      inr (
                        λ x. omega (arith, size_is v image cache h f (from v image cache h f w c g e) e),
                        read_done v image cache h f (from v image cache h f w c g e) e t offset count size n s m (bytes buffer) is q,
                      ),
                    ),
                  ),
                ),
              ),
            ),
          )
