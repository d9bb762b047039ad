-- Marks for held blocks, one number a block: S4 as the code tests it. Assumes nothing.
use Rattle.std.specs.Prelude.{◌≡◌, refl, ◌⊎◌, ◌≢◌, Bool, false, List, get_or, length, set}
use Rattle.std.proofs.Math.Path.{sym, ap}
use Rattle.std.proofs.Common.{◌∙◌, add-one, le-ltb}
use Rattle.std.proofs.Math.Logic.{inl, inr}
use Prim.Native.Nat.{ℕ, zero, suc, ◌+◌, ◌≤◌, ◌<◌}
use native.Mathlib.Omega.{arith}
use Rattle.std.proofs.Math.Decide.{dec_lt, ℕ_discrete}
use Rattle.superblock.specs.declared.Super.{Super}
use Rattle.base.specs.Bytes.{Bytes, bytes, put, put_in}
use Rattle.base.specs.Update.{upd, upd_same, upd_other, upd_set}
use Rattle.superblock.specs.Disk.{Disk, disk, ino_of, bit_of}
use Rattle.superblock.specs.Geometry.{GoodNumbers, data_start, bits}
use Rattle.superblock.specs.Node.{Node, no_node}
use Rattle.rules.specs.Fit.{Taken, Fit, held, count, in_use}
use Rattle.rules.specs.Rules.{S3, S4}
use Rattle.base.specs.Decide.{Decides, not_so, alike}
use Rattle.reads.specs.Read.{ino_none}

-- the memory m with marks at f 0, .., f (n - 1)
unfoldable pub marked : Bytes → (ℕ → ℕ) → ℕ → Bytes
marked m f zero = m
marked m f (suc n) = upd (marked m f n) (f n) 1

-- each of f 0, .., f (n - 1) has no mark when its turn comes
abbrev pub Fresh : Bytes → (ℕ → ℕ) → ℕ → Type 0
Fresh m f n = (p : ℕ) → p < n → marked m f p (f p) ≡ 0

abbrev pub Fits : (ℕ → ℕ) → ℕ → Type 0
Fits f n = (p : ℕ) → p < n → f p < 65536

-- with the marks of all inodes below n
unfoldable pub marked_all : Bytes → Disk → ℕ → Bytes
marked_all m v zero = m
marked_all m v (suc i) = marked (marked_all m v i) (held v i) (count v i)

abbrev pub FreshAll : Bytes → Disk → ℕ → Type 0
FreshAll m v n = (i : ℕ) → i < n → Fresh (marked_all m v i) (held v i) (count v i)

pub record BitOk (g : Super) (v : Disk) (b mark : ℕ) : Type 0 where
  pub low : b < data_start g → v.bit b ≡ 1
  pub taken : data_start g ≤ b → mark ≡ 1 → v.bit b ≡ 1
  pub only : data_start g ≤ b → v.bit b ≡ 1 → mark ≡ 1

-- ---- one turn of the code

module _ (m : Bytes) (f : ℕ → ℕ) (l : List ℕ) (p b : ℕ) (e : bytes l ≡ marked m f p) (h : b ≡ f p) where
  pub turn_mark : b < length l → bytes (set l b 1) ≡ marked m f (p + 1)
  unfolding marked
  turn_mark k = upd_set l b 1 k ∙ rw (e, h, add-one)

  at_turn : get_or l b 0 ≡ marked m f p (f p)
  at_turn = ap (λ (x : Bytes). x b) e ∙ ap (marked m f p) h

  pub turn_fresh : get_or l b 0 ≡ 0 → marked m f p (f p) ≡ 0
  turn_fresh z = sym at_turn ∙ z

  pub turn_stale : (n : ℕ) → p < n → (get_or l b 0 ≡ 0 → ⊥) → Fresh m f n → ⊥
  turn_stale n k z fr = z (at_turn ∙ fr p k)

module _ (m : Bytes) (v : Disk) (w : Bytes) (i n : ℕ) (e : w ≡ marked_all m v i) (h : n ≡ count v i) where
  pub turn_all : (u : Bytes) → u ≡ marked w (held v i) n → u ≡ marked_all m v (i + 1)
  unfolding marked_all
  turn_all u x = x ∙ rw (e, h, add-one)

  pub turn_all_fresh : Fresh w (held v i) n → Fresh (marked_all m v i) (held v i) (count v i)
  turn_all_fresh f = rw (← h, ← e) f

  pub turn_all_stale : (N : ℕ) → i < N → (Fresh w (held v i) n → ⊥) → FreshAll m v N → ⊥
  turn_all_stale N l f fr = f (rw (e, h) (fr i l))

-- ---- laws of marks

module _ (m : Bytes) (f : ℕ → ℕ) where
  -- a mark stays
  pub marked-keeps : (n b : ℕ) → m b ≡ 1 → marked m f n b ≡ 1
  unfolding marked
  marked-keeps zero b h = h
  marked-keeps (suc n) b h = elim (ℕ_discrete b (f n)) [
    | yes e ↦ rw (e, upd_same)
    | no e ↦ upd_other (marked m f n) (f n) 1 b e ∙ marked-keeps n b h
  ]

  pub marked_has : (n p : ℕ) → p < n → marked m f n (f p) ≡ 1
  unfolding marked
  marked_has zero p l = absurd (omega arith)
  marked_has (suc n) p l = elim (ℕ_discrete (f p) (f n)) [
    | yes e ↦ rw (e, upd_same)
    | no e ↦ upd_other (marked m f n) (f n) 1 (f p) e ∙ marked_has n p (elim (ℕ_discrete p n) [ yes q ↦ absurd (e (ap f q)) | no q ↦ omega arith ])
  ]

  -- a mark comes from somewhere
  pub marked_from : (n b : ℕ) → marked m f n b ≢ 0 → (m b ≢ 0) ⊎ ((p : ℕ) × (p < n) × (f p ≡ b))
  unfolding marked
  marked_from zero b h = inl h
  marked_from (suc n) b h = elim (ℕ_discrete b (f n)) [
    | yes e ↦ inr (n, omega arith, sym e)
    | no e ↦ more (marked_from n b (λ z. h (upd_other (marked m f n) (f n) 1 b e ∙ z)))
  ]
    where
      more : (m b ≢ 0) ⊎ ((p : ℕ) × (p < n) × (f p ≡ b)) → (m b ≢ 0) ⊎ ((p : ℕ) × (p < suc n) × (f p ≡ b))
      more (inl x) = inl x
      more (inr x) = inr (x.0, omega (arith, x.1), x.2)

-- a holder below inode n
pub record Below (v : Disk) (n b : ℕ) : Type 0 where
  pub i : ℕ
  pub p : ℕ
  pub less : i < n
  pub live : p < count v i
  pub here : held v i p ≡ b

module _ (m : Bytes) (v : Disk) where
  pub all_has : (n i p : ℕ) → i < n → p < count v i → marked_all m v n (held v i p) ≡ 1
  unfolding marked_all
  all_has zero i p l k = absurd (omega arith)
  all_has (suc n) i p l k = elim (ℕ_discrete i n) [
    | yes e ↦ rw e (marked_has (marked_all m v n) (held v n) (count v n) p (rw e at k))
    | no e ↦ marked-keeps (marked_all m v n) (held v n) (count v n) (held v i p) (all_has n i p (omega arith) k)
  ]

  pub all_from : (n b : ℕ) → m b ≡ 0 → marked_all m v n b ≢ 0 → Below v n b
  unfolding marked_all
  all_from zero b z h = absurd (h z)
  all_from (suc n) b z h = go (all_from n b z) (marked_from (marked_all m v n) (held v n) (count v n) b h)
    where
      go : (marked_all m v n b ≢ 0 → Below v n b) → (marked_all m v n b ≢ 0) ⊎ ((p : ℕ) × (p < count v n) × (held v n p ≡ b)) → Below v (suc n) b
      go ih (inl x) = let w = ih x in record { i = w.i; p = w.p; less = omega (arith, w.less); live = w.live; here = w.here }
      go ih (inr x) = record { i = n; p = x.0; less = omega arith; live = x.1; here = x.2 }

-- ---- S4

module _ (g : Super) (ok : GoodNumbers g) (d : Bytes) (s3 : S3 g (disk g d)) where
  pub count_in : (i p : ℕ) → p < count (disk g d) i → i < g.ninodes
  unfolding no_node
  count_in i p l = elim (dec_lt i g.ninodes) [
    | yes h ↦ h
    | no h ↦
        let z : ino_of g d i ≡ no_node = ino_none g d i (λ _. omega arith) in
        let q : count (disk g d) i ≡ 0 = ap (λ (r : Node). in_use r.kind r.size) z in absurd (omega arith)
  ]

  -- what is held is a data block
  pub held-taken : (i p : ℕ) → p < count (disk g d) i → Taken g (disk g d) (held (disk g d) i p)
  held-taken i p l = go ((disk g d).ino i).kind refl (s3.each i)
    where
      go : (x : ℕ) → ((disk g d).ino i).kind ≡ x → (((disk g d).ino i).kind ≡ 0) ⊎ Fit g (disk g d) ((disk g d).ino i) → Taken g (disk g d) (held (disk g d) i p)
      go x e (inl z) = let l' : p < in_use 0 ((disk g d).ino i).size = (rw z at l) in absurd (omega arith)
      go zero e (inr f) = let l' : p < in_use 0 ((disk g d).ino i).size = (rw e at l) in absurd (omega arith)
      go (suc x) e (inr f) = let l' : p < in_use (suc x) ((disk g d).ino i).size = (rw e at l) in f.first p l'

  pub held_fits : (i p : ℕ) → p < count (disk g d) i → held (disk g d) i p < 65536
  held_fits i p l = omega (arith, (held-taken i p l).high, ok.size_most)

module _ (g : Super) (ok : GoodNumbers g) (d m : Bytes) (clear : (b : ℕ) → b < 65536 → m b ≡ 0) (s3 : S3 g (disk g d)) where
  -- two holders, the first of which comes before the second
  before : FreshAll m (disk g d) g.ninodes → (i j p q : ℕ) → p < count (disk g d) i → q < count (disk g d) j → held (disk g d) i p ≡ held (disk g d) j q → i < j → ⊥
  before fr i j p q lp lq e l =
      let a : marked_all m (disk g d) j (held (disk g d) i p) ≡ 1 = all_has m (disk g d) j i p l lp in
      let b : marked (marked_all m (disk g d) j) (held (disk g d) j) q (held (disk g d) i p) ≡ 1 = marked-keeps (marked_all m (disk g d) j) (held (disk g d) j) q (held (disk g d) i p) a in
      let b' : marked (marked_all m (disk g d) j) (held (disk g d) j) q (held (disk g d) j q) ≡ 1 = (rw e at b) in
      let c = fr j (count_in g ok d s3 j q lq) q lq in omega arith

  within : FreshAll m (disk g d) g.ninodes → (i p q : ℕ) → p < count (disk g d) i → q < count (disk g d) i → held (disk g d) i p ≡ held (disk g d) i q → p < q → ⊥
  within fr i p q lp lq e l =
      let b : marked (marked_all m (disk g d) i) (held (disk g d) i) q (held (disk g d) i p) ≡ 1 = marked_has (marked_all m (disk g d) i) (held (disk g d) i) q p l in
      let b' : marked (marked_all m (disk g d) i) (held (disk g d) i) q (held (disk g d) i q) ≡ 1 = (rw e at b) in
      let c = fr i (count_in g ok d s3 i q lq) q lq in omega arith

  once : FreshAll m (disk g d) g.ninodes → (i j p q : ℕ) → p < count (disk g d) i → q < count (disk g d) j → held (disk g d) i p ≡ held (disk g d) j q → (i ≡ j) × (p ≡ q)
  once fr i j p q lp lq e = elim (ℕ_discrete i j) [
    | yes z ↦
        let lq' : q < count (disk g d) i = rw z lq in
        let e' : held (disk g d) i p ≡ held (disk g d) i q = e ∙ ap (λ (x : ℕ). held (disk g d) x q) (sym z) in
        (z, elim (dec_lt p q) [ yes s ↦ absurd (within fr i p q lp lq' e' s) | no s ↦ elim (dec_lt q p) [ yes s₂ ↦ absurd (within fr i q p lq' lp (sym e') s₂) | no s₂ ↦ omega arith ] ])
    | no z ↦ absurd (elim (dec_lt i j) [ yes s ↦ before fr i j p q lp lq e s | no s ↦ before fr j i q p lq lp (sym e) (omega arith) ])
  ]

  -- if each block is held once, each is fresh in its turn
  pub s4_fresh : S4 g (disk g d) → FreshAll m (disk g d) g.ninodes
  s4_fresh s4 i l p lp = elim (ℕ_discrete (marked (marked_all m (disk g d) i) (held (disk g d) i) p (held (disk g d) i p)) 0) [
    | yes z ↦ z
    | no z ↦ absurd (bad (marked_from (marked_all m (disk g d) i) (held (disk g d) i) p (held (disk g d) i p) z))
  ]
    where
      bad : (marked_all m (disk g d) i (held (disk g d) i p) ≢ 0) ⊎ ((q : ℕ) × (q < p) × (held (disk g d) i q ≡ held (disk g d) i p)) → ⊥
      bad (inl x) =
          let w = all_from m (disk g d) i (held (disk g d) i p) (clear (held (disk g d) i p) (held_fits g ok d s3 i p lp)) x in
          let y = (s4.once w.i i w.p p w.live lp w.here).0 in omega (arith, w.less)
      bad (inr x) = let y = (s4.once i i x.0 p (omega (arith, x.1)) lp x.2).1 in omega (arith, x.1)

  pub s4_not_fresh : (FreshAll m (disk g d) g.ninodes → ⊥) → Decides false (S4 g (disk g d))
  s4_not_fresh h = not_so (λ s. h (s4_fresh s))

  -- no bit past those of the bitmap's one block
  high_bit : (b : ℕ) → 8192 ≤ b → bit_of g d b ≡ 0
  unfolding bit_of
  high_bit b h = rw (le-ltb b (bits g) (omega (arith, ok.size_most)))

  module _ (r : Bool) (n : Bytes) (marks : n ≡ marked_all m (disk g d) g.ninodes) where
    -- with all marks made, S4 is what the bits say
    pub s4_bits : FreshAll m (disk g d) g.ninodes → Decides r ((b : ℕ) → b < 8192 → BitOk g (disk g d) b (n b)) → Decides r (S4 g (disk g d))
    s4_bits fr dd = alike to from dd
      where
        mark_of : (b : ℕ) → b < 65536 → n b ≡ 1 → Below (disk g d) g.ninodes b
        mark_of b l e = all_from m (disk g d) g.ninodes b (clear b l) (λ z. let q : n b ≡ 0 = ap (λ (x : Bytes). x b) marks ∙ z in omega arith)

        to : ((b : ℕ) → b < 8192 → BitOk g (disk g d) b (n b)) → S4 g (disk g d)
        to f = record {
          once = once fr;
          low = λ b l. (f b (omega (arith, ok.laid.nblocks, ok.laid.some, ok.size_most))).low l;
          taken = λ i p l. (held-taken g ok d s3 i p l).is_set;
          only = λ b l e. elim (dec_lt b 8192) [
            | yes h ↦ let w = mark_of b (omega arith) ((f b h).only l e) in record { i = w.i; p = w.p; live = w.live; here = w.here }
            | no h ↦ absurd (let z : bit_of g d b ≡ 0 = high_bit b (omega arith) in omega arith)
          ];
        }

        from : S4 g (disk g d) → (b : ℕ) → b < 8192 → BitOk g (disk g d) b (n b)
        from s b l = record {
          low = s.low b;
          taken = λ _ e. let w = mark_of b (omega arith) e in rw (← w.here) (s.taken w.i w.p w.live);
          only = λ k e. let w = s.only b k e in rw (marks, ← w.here) (all_has m (disk g d) g.ninodes w.i w.p (count_in g ok d s3 w.i w.p w.live) w.live);
        }

-- what clearing leaves
pub cleared : (m d : Bytes) → m ≡ put d 0 65536 (λ k. 0) → (b : ℕ) → b < 65536 → m b ≡ 0
cleared m d e b l = ap (λ (x : Bytes). x b) e ∙ put_in d 0 65536 (λ k. 0) b (omega arith) (omega arith)
