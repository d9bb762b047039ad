-- Every block that an inode holds is distinct, as write and truncate need it, and how a pass with a mark for each block decides it.
-- Assumes nothing.
use Rattle.std.specs.Prelude.{◌≡◌, Bool, true, false, cond, List, ℕ, ◌+◌, ◌-◌, ◌*◌, ◌≤◌, ◌<◌, get_or, replicate, ltb}
use Rattle.std.proofs.Common.{sym, ap, ◌∙◌, arith, lt-ltb, le-ltb}
use Rattle.std.proofs.Math.Decide.{ℕ_discrete, dec_lt}
use Rattle.std.proofs.lemmas.List.{length-replicate, get_or-replicate}
use Rattle.std.proofs.Math.ListN.{get_or-eq_default}
use Rattle.base.specs.Bytes.{Bytes}
use Rattle.base.specs.Number.{get, get_moved}
use Rattle.base.specs.Decide.{Decides, alike, never}
use Rattle.superblock.specs.declared.Super.{Super}
use Rattle.superblock.specs.declared.Inode.{Inode}
use Rattle.superblock.specs.Geometry.{GoodNumbers}
use Rattle.superblock.specs.Node.{Node, node}
use Rattle.superblock.specs.Disk.{disk, mem_of}
use Rattle.rules.specs.Fit.{Fit, blocks, slots, slot}
use Rattle.inode.specs.Slots.{slot_direct, slot-entry, entry-some}
use Rattle.inode.specs.Content.{fit_slot}

-- of f 0, .., f (n - 1), no two are equal
pub record Once (f : ℕ → ℕ) (n : ℕ) : Type 0 where
  pub once : (p q : ℕ) → p < n → q < n → f p ≡ f q → p ≡ q

-- the slots that the inode r has in use hold distinct blocks; m is the memory in which its indirect block is read
abbrev pub Apart : Bytes → Node → Type 0
Apart m r = Once (slot m r) (slots r.size)

-- the slots in use hold small numbers, and the indirect block is there where it is needed: so it is for a fit inode (`fit_held`)
pub record Held (m : Bytes) (r : Node) : Type 0 where
  pub size : r.size ≤ 274432
  pub low : (p : ℕ) → p < slots r.size → slot m r p < 8192
  pub some : 12 < blocks r.size → r.addr 12 ≡ 0 → ⊥

-- slot p as the code reads it, t being the indirect block
unfoldable pub slot_by : Inode → Bytes → ℕ → ℕ
slot_by f t p = cond (ltb p 13) (get_or f.addrs p 0) (get t (4 * (p - 13)) 4)

-- ---- for a fit inode

module _ (s : Super) (good : GoodNumbers s) (d : Bytes) (r : Node) (fit : Fit s (disk s d) r) where
  pub fit_held : Held d r
  fit_held = record {
    size = fit.shape.small;
    low = λ p l. rw (fit_slot s d r fit p) (let t = fit.first p l in omega (arith, t.high, good.size_most));
    some = λ h z.
        let t = fit.first 12 (omega arith) in
        omega (arith, t.low, slot_direct r (mem_of s d) 12 (omega arith), good.laid.inodestart, good.laid.bmapstart);
  }

  -- distinct in what is seen is distinct on the Disk
  pub apart-disk : {b : Bool} → Decides b (Apart d r) → Decides b (Apart (mem_of s d) r)
  apart-disk {b} = alike
      (λ o. record { once = λ p q l k e. o.once p q l k (fit_slot s d r fit p ∙ e ∙ sym (fit_slot s d r fit q)) })
      (λ o. record { once = λ p q l k e. o.once p q l k (sym (fit_slot s d r fit p) ∙ e ∙ fit_slot s d r fit q) })

-- ---- as the code reads the slots

module _ (f : Inode) (t : Bytes) (p : ℕ) where
  pub by_direct : p < 13 → get_or f.addrs p 0 ≡ slot_by f t p
  unfolding slot_by
  by_direct h = rw (lt-ltb p 13 h)

  pub by_listed : 13 ≤ p → get t (4 * (p - 13)) 4 ≡ slot_by f t p
  unfolding slot_by
  by_listed h = rw (le-ltb p 13 h)

pub by_entry : (f : Inode) (t : Bytes) (k : ℕ) → get t (4 * k) 4 ≡ slot_by f t (13 + k)
by_entry f t k = let z : 13 + k - 13 ≡ k = omega arith in rw z at (by_listed f t (13 + k) (omega arith))

module _ (d : Bytes) (f : Inode) (held : Held d (node f)) (t : Bytes) (same : (i : ℕ) → i < 1024 → t i ≡ d (get_or f.addrs 12 0 * 1024 + i)) where
  pub by_is : (p : ℕ) → p < slots f.size → slot_by f t p ≡ slot d (node f) p
  by_is p h = elim (dec_lt p 13) [
    | yes l ↦ sym (by_direct f t p l) ∙ sym (slot_direct (node f) d p l)
    | no l ↦
        let z : p ≡ 13 + (p - 13) = omega arith in
        sym (by_listed f t p (omega arith))
        ∙ get_moved t d (get_or f.addrs 12 0 * 1024) 1024 same (4 * (p - 13)) 4 (omega (arith, held.size))
        ∙ sym (entry-some d (get_or f.addrs 12 0) (p - 13) (held.some (omega arith)))
        ∙ sym (ap (slot d (node f)) z ∙ slot-entry (node f) d (p - 13))
  ]

  pub by_low : (n : ℕ) → n ≡ slots f.size → (p : ℕ) → p < n → slot_by f t p < 8192
  by_low n e p h = rw (by_is p (omega arith)) (held.low p (omega arith))

  pub by_apart : (n : ℕ) {b : Bool} → n ≡ slots f.size → Decides b (Once (slot_by f t) n) → Decides b (Apart d (node f))
  by_apart n e = alike
      (λ o. record { once = λ p q l k z. o.once p q (omega arith) (omega arith) (by_is p l ∙ z ∙ sym (by_is q k)) })
      (λ o. record { once = λ p q l k z. o.once p q (omega arith) (omega arith) (sym (by_is p (omega arith)) ∙ z ∙ by_is q (omega arith)) })

-- ---- the pass

-- m says of each block whether it is marked; those that are are f 0, .., f (n - 1), which are distinct
pub record Marked (m : List Bool) (f : ℕ → ℕ) (n : ℕ) : Type 0 where
  pub mark : (p : ℕ) → p < n → get_or m (f p) false ≡ true
  pub from : (x : ℕ) → get_or m x false ≡ true → (p : ℕ) × (p < n) × (f p ≡ x)
  pub once : Once f n

pub marked_start : (k : ℕ) (f : ℕ → ℕ) → Marked (replicate k false) f 0
marked_start k f = record { mark = λ p l. absurd (omega arith); from = λ x n. never (sym (none x) ∙ n); once = record { once = λ p q l. absurd (omega arith) } }
  where
    none : (x : ℕ) → get_or (replicate k false) x false ≡ false
    none x = elim (dec_lt x k) [
      | yes l ↦ get_or-replicate {A = Bool} k x false false l
      | no l ↦ get_or-eq_default (replicate {A = Bool} k false) false (omega (arith, length-replicate {A = Bool} k false))
    ]

-- ---- numbers that ascend are distinct

-- f 0, .., f (n - 1) are at most m, and distinct
pub record Climbed (f : ℕ → ℕ) (n m : ℕ) : Type 0 where
  pub most : (p : ℕ) → p < n → f p ≤ m
  pub once : Once f n

-- a test that says yes only of distinct numbers
pub record Climbs (r : Bool) (f : ℕ → ℕ) (n : ℕ) : Type 0 where
  pub once : r ≡ true → Once f n

pub climbed_more : (f : ℕ → ℕ) (n m b : ℕ) → Climbed f n m → b ≡ f n → m < b → Climbed f (n + 1) b
climbed_more f n m b g e h = record { most = most; once = record { once = once } }
  where
    last : (p : ℕ) → p ≡ n → f p ≡ b
    last p u = ap f u ∙ sym e

    most : (p : ℕ) → p < n + 1 → f p ≤ b
    most p l = elim (ℕ_discrete p n) [
      | yes u ↦ omega (arith, last p u)
      | no u ↦ omega (arith, g.most p (omega arith))
    ]

    once : (p q : ℕ) → p < n + 1 → q < n + 1 → f p ≡ f q → p ≡ q
    once p q l k y = elim (ℕ_discrete p n) [
      | yes u ↦ elim (ℕ_discrete q n) [
        | yes w ↦ omega arith
        | no w ↦ absurd (omega (arith, last p u, g.most q (omega arith)))
      ]
      | no u ↦ elim (ℕ_discrete q n) [
        | yes w ↦ absurd (omega (arith, last q w, g.most p (omega arith)))
        | no w ↦ g.once.once p q (omega arith) (omega arith) y
      ]
    ]

-- the first 13, and all of them
pub climbed_as : (f : ℕ → ℕ) (n k m : ℕ) → n ≡ k → Climbed f n m → Climbed f k m
climbed_as f n k m e g = rw e at g

pub climbed_entry : (f : Inode) (t : Bytes) (k m b : ℕ) → Climbed (slot_by f t) (13 + k) m → b ≡ get t (4 * k) 4 → m < b → Climbed (slot_by f t) (13 + (k + 1)) b
climbed_entry f t k m b g e h = climbed_as (slot_by f t) (13 + k + 1) (13 + (k + 1)) b (omega arith) (climbed_more (slot_by f t) (13 + k) m b g (e ∙ by_entry f t k) h)

pub climbed_direct : (f : Inode) (t : Bytes) (p m b : ℕ) → Climbed (slot_by f t) p m → p < 13 → b ≡ get_or f.addrs p 0 → m < b → Climbed (slot_by f t) (p + 1) b
climbed_direct f t p m b g l e h = climbed_more (slot_by f t) p m b g (e ∙ by_direct f t p l) h
