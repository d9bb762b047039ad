-- S6 as the code tests it: each directory is named once, in the directory that its ".." names, and ".." leads up to the root. Assumes nothing.
use Rattle.std.specs.Prelude.{◌≡◌, refl, ◌⊎◌, ◌≢◌, Bool, true, false, leb, eqb}
use Rattle.std.proofs.Common.{sym, ◌∙◌, inl, inr, arith, leb-true, eqb-true}
use Rattle.std.proofs.Math.Path.{ap}
use Prim.Native.Nat.{ℕ, zero, suc, ◌+◌, ◌≤◌, ◌<◌}
use Rattle.std.proofs.Math.Decide.{dec_lt, ℕ_discrete}
use Rattle.base.specs.Bytes.{Bytes}
use Rattle.base.specs.First.{sum_to}
use Rattle.base.specs.Decide.{Decides, alike}
use Rattle.superblock.specs.declared.Super.{Super}
use Rattle.superblock.specs.Geometry.{GoodNumbers}
use Rattle.superblock.specs.Node.{no_node}
use Rattle.superblock.specs.Disk.{disk, ino_of}
use Rattle.rules.specs.Fit.{Fit}
use Rattle.rules.specs.Tree.{Tree, tree, num_of, tally, names_in, names, up, follow, Listed, Reaches}
use Rattle.rules.specs.Rules.{S3, Below, S6}
use Rattle.reads.specs.Read.{Ends, kind_in, kind_none, num_file, num_gone}
use Rattle.links.specs.Counts.{Counts, tally-here}
use Rattle.parents.specs.Reach.{follow_add, bounded}

-- inode i, if it is a directory and not the root, is named once; n is how often it is named
abbrev pub Once : Tree → ℕ → ℕ → Type 0
Once t i n = t.kind i ≡ 1 → i ≢ 1 → n ≡ 1

-- entry k of directory j, if it names a directory that is not the root, names one whose ".." is j
abbrev pub HomeOk : Tree → ℕ → ℕ → Type 0
HomeOk t j k = t.kind (t.num j k) ≡ 1 → t.num j k ≢ 1 → up t (t.num j k) ≡ j

-- following ".." from i stays below N, and stays at the root
pub record Stays (N : ℕ) (t : Tree) (i : ℕ) : Type 0 where
  pub root : up t 1 ≡ 1
  pub below : (k : ℕ) → follow (up t) k i < N

-- ---- the walk

pub up_more : (t : Tree) (n i : ℕ) → follow (up t) (n + 1) i ≡ up t (follow (up t) n i)
unfolding follow
up_more t n i = follow_add (up t) n 1 i

pub climb_end : (N : ℕ) (t : Tree) (i n x : ℕ) (r : Bool) → Stays N t i → n ≡ N → x ≡ follow (up t) n i → Decides r (x ≡ 1) → Decides r (Reaches t i)
climb_end N t i n x r s e h d = alike
    (λ y. record { depth = n; there = sym h ∙ y })
    (λ y. h ∙ ap (λ (a : ℕ). follow (up t) a i) e ∙ bounded (up t) s.root i N s.below y.depth y.there)
    d

-- ---- sums: one that is not 0 has a part that is not 0, and two parts that are not 0 make at least 2

found : (n : ℕ) (f : ℕ → ℕ) → sum_to n f ≢ 0 → (j : ℕ) × (j < n) × (f j ≢ 0)
unfolding sum_to
found zero f h = absurd (h refl)
found (suc n) f h = elim (ℕ_discrete (f n) 0) [
  | yes z ↦ let w = found n f (λ y. h (omega arith)) in (w.0, omega (arith, w.1), w.2)
  | no z ↦ (n, omega arith, z)
]

one_part : (n : ℕ) (f : ℕ → ℕ) (a : ℕ) → a < n → 1 ≤ f a → 1 ≤ sum_to n f
unfolding sum_to
one_part zero f a l h = absurd (omega arith)
one_part (suc n) f a l h = elim (ℕ_discrete a n) [
  | yes z ↦ let h' : 1 ≤ f n = (rw z at h) in omega arith
  | no z ↦ omega (arith, one_part n f a (omega arith) h)
]

two_parts : (n : ℕ) (f : ℕ → ℕ) (a b : ℕ) → a < n → b < n → a ≢ b → 1 ≤ f a → 1 ≤ f b → 2 ≤ sum_to n f
unfolding sum_to
two_parts zero f a b la lb ne ha hb = absurd (omega arith)
two_parts (suc n) f a b la lb ne ha hb = elim (ℕ_discrete a n) [
  | yes z ↦ let h : 1 ≤ f n = (rw z at ha) in omega (arith, one_part n f b (omega arith) hb)
  | no z ↦ elim (ℕ_discrete b n) [
    | yes y ↦ let h : 1 ≤ f n = (rw y at hb) in omega (arith, one_part n f a (omega arith) ha)
    | no y ↦ omega (arith, two_parts n f a b (omega arith) (omega arith) ne ha hb)
  ]
]

-- what is tallied is an entry that names i
tally_from : (t : Tree) (i j k : ℕ) → tally t i j k ≢ 0 → (2 ≤ k) × (t.num j k ≡ i)
unfolding tally
tally_from t i j k h = go (leb 2 k) refl (eqb (t.num j k) i) refl
  where
    go : (a : Bool) → leb 2 k ≡ a → (b : Bool) → eqb (t.num j k) i ≡ b → (2 ≤ k) × (t.num j k ≡ i)
    go true p true q = (leb-true 2 k p, eqb-true (t.num j k) i q)
    go true p false q = absurd (h (rw (p, q)))
    go false p b q = absurd (h (rw p))

module _ (g : Super) (ok : GoodNumbers g) (d : Bytes) (s3 : S3 g (disk g d)) where
  seen : (i : ℕ) → (ino_of g d i).kind ≡ 1 → (0 < i) × (i < g.ninodes)
  seen i h = kind_in g d i (omega arith)

  -- an entry that is not free is in a directory, and is one of its first 17,152
  dir_of : (j k : ℕ) → num_of (disk g d) j k ≢ 0 → (ino_of g d j).kind ≡ 1
  dir_of j k h = elim (ℕ_discrete (ino_of g d j).kind 1) [ yes e ↦ e | no e ↦ absurd (h (num_file (disk g d) j k e)) ]

  entry_in : (j k : ℕ) → num_of (disk g d) j k ≢ 0 → k < 17152
  entry_in j k h = elim (dec_lt k 17152) [
    | yes l ↦ l
    | no l ↦ absurd (h (num_gone (disk g d) j k (omega (arith, size (s3.each j)))))
  ]
    where
      size : ((ino_of g d j).kind ≡ 0) ⊎ Fit g (disk g d) (ino_of g d j) → (ino_of g d j).size ≤ 274432
      size (inl z) = absurd (let e = dir_of j k h in omega arith)
      size (inr f) = f.shape.small

  named_in : (i j k : ℕ) → 0 < i → 2 ≤ k → num_of (disk g d) j k ≡ i → 1 ≤ names_in (tree (disk g d)) i j
  named_in i j k z l e = one_part 17152 (tally (tree (disk g d)) i j) k (entry_in j k (omega arith)) (omega (arith, tally-here (tree (disk g d)) i j k l e))

  -- the one entry that names i is in the directory that its ".." names
  pub is_home : S6 g (tree (disk g d)) → (j : ℕ) → j < g.ninodes → (k : ℕ) → 2 ≤ k → HomeOk (tree (disk g d)) j k
  is_home s j l k m h n = elim (ℕ_discrete (up (tree (disk g d)) x) j) [
    | yes e ↦ e
    | no e ↦ absurd (let q : 2 ≤ names g (tree (disk g d)) x = two_parts g.ninodes (names_in (tree (disk g d)) x) (up (tree (disk g d)) x) j (seen (up (tree (disk g d)) x) b.parent).1 l e (named_in x (up (tree (disk g d)) x) b.listed.entry (seen x h).0 b.listed.past b.listed.here) (named_in x j k (seen x h).0 m refl) in omega (arith, b.one))
  ]
    where
      x : ℕ
      x = num_of (disk g d) j k

      b : Below g (tree (disk g d)) x
      b = s.below x h n

  module _ (m : Bytes) (counts : Counts g (tree (disk g d)) m) where
    pub is_once : S6 g (tree (disk g d)) → (i : ℕ) → i < g.ninodes → Once (tree (disk g d)) i (m i)
    is_once s i l h n = counts i (seen i h).0 (omega (arith, ok.inodes_most)) ∙ (s.below i h n).one

    module _ (root : num_of (disk g d) 1 1 ≡ 1) (once : (i : ℕ) → i < g.ninodes → Once (tree (disk g d)) i (m i))
        (home : (j : ℕ) → j < g.ninodes → (k : ℕ) → 2 ≤ k → HomeOk (tree (disk g d)) j k) where
      one : (i : ℕ) → (ino_of g d i).kind ≡ 1 → i ≢ 1 → names g (tree (disk g d)) i ≡ 1
      one i h n = sym (counts i (seen i h).0 (omega (arith, ok.inodes_most, (seen i h).1))) ∙ once i (seen i h).1 h n

      -- where a directory's one entry is
      pub placed : (i : ℕ) → (ino_of g d i).kind ≡ 1 → i ≢ 1 → ((ino_of g d (up (tree (disk g d)) i)).kind ≡ 1) × Listed (tree (disk g d)) (up (tree (disk g d)) i) i
      placed i h n =
          let a = found g.ninodes (names_in (tree (disk g d)) i) (λ z. let o = one i h n in omega arith) in
          let b = found 17152 (tally (tree (disk g d)) i a.0) a.2 in
          let e = tally_from (tree (disk g d)) i a.0 b.0 b.2 in
          let u : up (tree (disk g d)) i ≡ a.0 = at a.0 b.0 a.1 e.0 e.1 in
          let p = (seen i h).0 in
          (ap (λ (y : ℕ). (ino_of g d y).kind) u ∙ dir_of a.0 b.0 (λ z. let y = e.1 in omega arith), record { entry = b.0; past = e.0; here = ap (λ (y : ℕ). num_of (disk g d) y b.0) u ∙ e.1 })
        where
          at : (j k : ℕ) → j < g.ninodes → 2 ≤ k → num_of (disk g d) j k ≡ i → up (tree (disk g d)) i ≡ j
          at j k l m₂ e = ap (up (tree (disk g d))) (sym e) ∙ home j l k m₂ (ap (λ (y : ℕ). (ino_of g d y).kind) e ∙ h) (λ z. n (sym e ∙ z))

      parents : (i : ℕ) → (ino_of g d i).kind ≡ 1 → (ino_of g d (up (tree (disk g d)) i)).kind ≡ 1
      parents i h = elim (ℕ_discrete i 1) [ yes e ↦ rw (e, root) s3.root | no e ↦ (placed i h e).0 ]

      all_dirs : (k i : ℕ) → (ino_of g d i).kind ≡ 1 → (ino_of g d (follow (up (tree (disk g d))) k i)).kind ≡ 1
      unfolding follow
      all_dirs zero i h = h
      all_dirs (suc k) i h = all_dirs k (up (tree (disk g d)) i) (parents i h)

      pub stays : (i : ℕ) → ((disk g d).ino i).kind ≡ 1 → Stays g.ninodes (tree (disk g d)) i
      stays i h = record { root = root; below = λ k. (seen (follow (up (tree (disk g d))) k i) (all_dirs k i h)).1 }

      pub s6_to : m 1 ≡ 0 → ((i : ℕ) → i < g.ninodes → ((disk g d).ino i).kind ≡ 1 → Reaches (tree (disk g d)) i) → S6 g (tree (disk g d))
      s6_to none r = record {
        root_up = root;
        root_once = sym (counts 1 (omega arith) (omega arith)) ∙ none;
        below = λ i h n. record { one = one i h n; parent = (placed i h n).0; listed = (placed i h n).1; reaches = r i (seen i h).1 h };
      }

  pub s6_reaches : S6 g (tree (disk g d)) → (i : ℕ) → i < g.ninodes → ((disk g d).ino i).kind ≡ 1 → Reaches (tree (disk g d)) i
  unfolding follow
  s6_reaches s i l h = elim (ℕ_discrete i 1) [
    | yes e ↦ record { depth = 0; there = e }
    | no e ↦ (s.below i h e).reaches
  ]

-- past the end of a directory there is nothing to ask
pub row-all : (g : Super) (d : Bytes) (j n : ℕ) (r : Bool) → Ends (disk g d) j n → Decides r ((k : ℕ) → 2 ≤ k → k < n → HomeOk (tree (disk g d)) j k) → Decides r ((k : ℕ) → 2 ≤ k → HomeOk (tree (disk g d)) j k)
unfolding no_node
row-all g d j n r e x = alike
    (λ f k l. elim (dec_lt k n) [ yes m ↦ f k l m | no m ↦ λ h _. absurd (none k (e.gone k (omega arith)) h) ])
    (λ f k l _. f k l) x
  where
    none : (k : ℕ) → num_of (disk g d) j k ≡ 0 → (ino_of g d (num_of (disk g d) j k)).kind ≡ 1 → ⊥
    none k z h = absurd (omega (arith, kind_none g d (num_of (disk g d) j k) (λ l. absurd (omega arith))))
