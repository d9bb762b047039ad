-- What a call has shown where it answers: of a handle that is good in a whole state, of the inode that it names, and of the copy of its content.
-- Assumes nothing.
use Rattle.std.specs.Prelude.{◌≡◌, List, ℕ, ◌+◌, ◌-◌, ◌≤◌, ◌<◌, min, get_or, length, set, ℤ}
use Rattle.std.proofs.Common.{sym, ap, ◌∙◌, arith, inl, inr}
use Rattle.base.specs.Bytes.{Bytes, bytes}
use Rattle.superblock.specs.declared.Inode.{Inode}
use Rattle.superblock.specs.Geometry.{GoodNumbers, inode_addr}
use Rattle.superblock.specs.Node.{Node, node, inode_at}
use Rattle.bio.specs.Seen.{seen}
use Rattle.rules.specs.Fit.{Fit, byte_of}
use Rattle.inode.specs.Lent.{Lent}
use Rattle.inode.specs.Fetch.{fetched}
use Rattle.inode.specs.Content.{content}
use Rattle.walk.specs.Step.{From}
use Rattle.content.specs.Parts.{content_at}
use Rattle.state.specs.Whole.{Whole}
use Rattle.state.specs.Card.{card-numbers, card-length}
use Rattle.state.specs.declared.Volume.{Volume}
use Rattle.state.specs.declared.Handle.{Handle}
use Rattle.slots.specs.Handles.{GoodHandle}
use Rattle.volume.specs.Answers.{done, Left, left, declined, disk_of}
use Rattle.volume.specs.declared.Facts.{Facts}
use Rattle.volume.specs.Signed.{signed}
use Rattle.volume.specs.Close.{closed, with_slots}
use Rattle.volume.specs.Stat.{facts_of, StatGives}
use Rattle.volume.specs.Read.{ReadGives, read_left, read_gave}
use Rattle.state.specs.declared.After.{After}
use Rattle.base.specs.declared.Refusal.TheVariants.{Unfit, WrongKind, PastEnd}

-- the memory that a volume sees
abbrev pub memory : Volume → List ℕ → List ℕ → Bytes
memory v cache image = seen v.table.blocks v.table.counts (bytes cache) (bytes image)

module _ (v : Volume) (image : List ℕ) (w : Whole v image) where
  pub numbers : GoodNumbers v.sb
  numbers = card-numbers v.sb image w.card

  pub lent : (cache : List ℕ) → length cache ≡ 30720 → Lent v.sb image cache
  lent cache e = record { numbers = numbers; card = card-length v.sb image w.card; buffers = e }

  -- a good handle's inode is one of the card's
  pub handle_from : (h : Handle) → GoodHandle v.slots.inums v.slots.refs h → From v.sb h.inum
  handle_from h g = record {
    some = omega (arith, w.slots.low h.slot g.slot g.used, g.inode);
    inside = omega (arith, w.slots.high h.slot g.slot g.used, g.inode);
  }

-- the count of a good handle's slot
pub handle_count : (inums refs : List ℕ) (h : Handle) (k n : ℕ) → GoodHandle inums refs h → k ≡ h.slot → n ≡ get_or refs k 0 → 1 ≤ n
handle_count inums refs h k n g e q = omega (arith, g.used, ap (λ (x : ℕ). get_or refs x 0) e)

pub close_done : (v : Volume) (h : Handle) (k n : ℕ) (refs : List ℕ) → k ≡ h.slot → n ≡ get_or v.slots.refs k 0 → refs ≡ set v.slots.refs k (n - 1)
    → ◌≡◌ {A = Left Unit} (with_slots v v.slots.inums refs, done record {}) (closed v h.slot, done record {})
close_done v h k n refs e q s =
    ap {B = Left Unit} (λ (r : List ℕ). (with_slots v v.slots.inums r, done record {}))
    (s ∙ ap (λ (x : ℕ). set v.slots.refs k (x - 1)) q ∙ ap (λ (x : ℕ). set v.slots.refs x (get_or v.slots.refs x 0 - 1)) e)

-- f is the handle's inode, fetched
module _ (v : Volume) (image cache : List ℕ) (h : Handle) (f : Inode) (from : From v.sb h.inum) (e : f ≡ inode_at (memory v cache image) (inode_addr v.sb h.inum)) where
  pub is_inode : node f ≡ (disk_of v cache image).ino h.inum
  is_inode = fetched v.sb (memory v cache image) h.inum f from.some from.inside e

  pub fit_inode : Fit v.sb (disk_of v cache image) (node f) → Fit v.sb (disk_of v cache image) ((disk_of v cache image).ino h.inum)
  fit_inode t = rw is_inode at t

  pub fit_fetched : Fit v.sb (disk_of v cache image) ((disk_of v cache image).ino h.inum) → Fit v.sb (disk_of v cache image) (node f)
  fit_fetched t = rw (← is_inode) at t

  pub kind_is : f.kind ≡ ((disk_of v cache image).ino h.inum).kind
  kind_is = ap (λ (r : Node). r.kind) is_inode

  pub size_is : f.size ≡ ((disk_of v cache image).ino h.inum).size
  size_is = ap (λ (r : Node). r.size) is_inode

  pub stat_done : (links : ℤ) → links ≡ signed f.nlink
      → ◌≡◌ {A = Left Facts} (v, done (record { kind = f.kind; nlink = links; size = f.size })) (v, done (facts_of ((disk_of v cache image).ino h.inum)))
  stat_done links q =
      ap {B = Left Facts} (λ (z : ℤ). (v, done (record { kind = f.kind; nlink = z; size = f.size }))) q
      ∙ ap {B = Left Facts} (λ (r : Node). (v, done (facts_of r))) is_inode

  module _ (t : Fit v.sb (disk_of v cache image) (node f)) (offset count size n : ℕ) (sized : size ≡ f.size) (counted : n ≡ min count (size - offset)) where
    -- a byte of the content
    pub byte_is : (k : ℕ) → k < n → content_at (memory v cache image) (node f) (offset + k) ≡ byte_of (disk_of v cache image) h.inum (offset + k)
    byte_is k l = sym (content v.sb (memory v cache image) (node f) t h.inum (offset + k) (sym is_inode) (omega arith))

-- ---- where stat and read answer after they have fetched the inode

module _ (v : Volume) (image cache : List ℕ) (h : Handle) (f : Inode) (w : Whole v image) (c : length cache ≡ 30720) (g : GoodHandle v.slots.inums v.slots.refs h)
    (e : f ≡ inode_at (memory v cache image) (inode_addr v.sb h.inum)) where
  pub from : From v.sb h.inum
  from = handle_from v image w h g

  pub stat_unfit : {r : After Facts} → (Fit v.sb (disk_of v cache image) (node f) → ⊥) → r ≡ declined v Unfit → StatGives v image cache h (left r)
  stat_unfit n q = inr (λ x. x w, inr (λ x. x c, inr (λ x. x g, inl (λ t. n (fit_fetched v image cache h f from e t), ap left q))))

  pub stat_told : (links : ℤ) → Fit v.sb (disk_of v cache image) (node f) → links ≡ signed f.nlink
      → StatGives v image cache h (v, done (record { kind = f.kind; nlink = links; size = f.size }))
  stat_told links t q = inr (λ x. x w, inr (λ x. x c, inr (λ x. x g, inr (λ x. x (fit_inode v image cache h f from e t), stat_done v image cache h f from e links q))))

  module _ (offset count : ℕ) (buffer : List ℕ) (b : count ≤ length buffer) where
    pub read_unfit : {r : After ℕ} → (Fit v.sb (disk_of v cache image) (node f) → ⊥) → r ≡ declined v Unfit → ReadGives v image cache h offset count buffer (read_left r buffer)
    read_unfit n q = inr (λ x. x w, inr (λ x. x c, inr (λ x. omega arith, inr (λ x. x g, inl (λ t. n (fit_fetched v image cache h f from e t), read_gave buffer q)))))

    module _ (t : Fit v.sb (disk_of v cache image) (node f)) where
      pub read_device : {r : After ℕ} → f.kind ≡ 3 → r ≡ declined v WrongKind → ReadGives v image cache h offset count buffer (read_left r buffer)
      read_device k q =
          inr (
            λ x. x w,
            inr (
              λ x. x c,
              inr (
                λ x. omega arith,
                inr (
                  λ x. x g,
                  inr (
                    λ x. x (fit_inode v image cache h f from e t),
                    inl (sym (kind_is v image cache h f from e) ∙ k, read_gave buffer q),
                  ),
                ),
              ),
            ),
          )

      pub read_past : {r : After ℕ} (size : ℕ) → (f.kind ≡ 3 → ⊥) → size ≡ f.size → size < offset → r ≡ declined v PastEnd → ReadGives v image cache h offset count buffer (read_left r buffer)
      read_past size k s l q =
          inr (
            λ x. x w,
            inr (
              λ x. x c,
              inr (
                λ x. omega arith,
                inr (
                  λ x. x g,
                  inr (
                    λ x. x (fit_inode v image cache h f from e t),
                    inr (λ x. k (kind_is v image cache h f from e ∙ x), inl (omega (arith, size_is v image cache h f from e), read_gave buffer q)),
                  ),
                ),
              ),
            ),
          )

-- an order and its opposite
pub not_below : {a b : ℕ} → a ≤ b → b < a → ⊥
not_below l m = omega arith
