-- Counting the entries that name each inode, and S7 inode by inode, as the code does it. Assumes nothing.
use Rattle.std.specs.Prelude.{◌≡◌, ◌≢◌, List, ℕ, zero, suc, ◌+◌, ◌*◌, ◌≤◌, ◌<◌, get_or, length, set}
use Rattle.std.proofs.Math.Path.{refl, ap}
use Rattle.std.proofs.Common.{sym, ◌∙◌, arith, get_or-set_same, get_or-set_other}
use Rattle.std.proofs.Math.Decide.{ℕ_discrete, dec_le}
use borrow.Author.Tests.{le-leb, eq-eqb, ne_eqb}
use Rattle.superblock.specs.declared.Super.{Super}
use Rattle.base.specs.Bytes.{Bytes, bytes}
use Rattle.superblock.specs.Disk.{Disk, disk, ino_of}
use Rattle.superblock.specs.Geometry.{GoodNumbers}
use Rattle.rules.specs.Tree.{Tree, tree, tally, names_in, names}
use Rattle.base.specs.First.{sum_to, sum_more}
use Rattle.rules.specs.Rules.{S7}
use Rattle.reads.specs.Read.{Ends, kind_in}

-- y is x and r more, but for the number 0, where nothing is said; and it is not much more
pub record Added (i x r y : ℕ) : Type 0 where
  pub eq : 0 < i → y ≡ x + r
  pub le : y ≤ x + 17152

-- m has for each inode how many entries name it
abbrev pub Counts : Super → Tree → Bytes → Type 0
Counts g t m = (i : ℕ) → 0 < i → i < 65536 → m i ≡ names g t i

-- counted in the directories below n
pub record Upto (t : Tree) (n i x : ℕ) : Type 0 where
  pub eq : 0 < i → x ≡ sum_to n (names_in t i)
  pub le : x ≤ n * 17152

-- ---- sums

sum_at : (a b : ℕ) (f : ℕ → ℕ) → a ≡ b → sum_to a f ≡ sum_to b f
sum_at a b f e = ap (λ (x : ℕ). sum_to x f) e

pub sum_stop : (n k : ℕ) (f : ℕ → ℕ) → ((j : ℕ) → n ≤ j → f j ≡ 0) → n ≤ k → sum_to k f ≡ sum_to n f
unfolding sum_to
sum_stop n zero f h l = sum_at 0 n f (omega arith)
sum_stop n (suc k) f h l = elim (dec_le n k) [
  | yes m ↦ omega (arith, sum_stop n k f h m, h k m)
  | no m ↦ sum_at (suc k) n f (omega arith)
]

module _ (t : Tree) (i j : ℕ) where
  pub tally-here : (k : ℕ) → 2 ≤ k → t.num j k ≡ i → tally t i j k ≡ 1
  unfolding tally
  tally-here k h e = rw (le-leb 2 k h, eq-eqb (t.num j k) i e)

  pub tally-other : (k : ℕ) → 2 ≤ k → (t.num j k ≡ i → ⊥) → tally t i j k ≡ 0
  unfolding tally
  tally-other k h e = rw (le-leb 2 k h, ne_eqb (t.num j k) i e)

  two : sum_to 2 (tally t i j) ≡ 0
  unfolding sum_to tally
  two = refl

-- ---- the loop over a directory: work w from work u, k entries passed

pub record Row (t : Tree) (j k : ℕ) (u w : Bytes) : Type 0 where
  pub eq : (i : ℕ) → i < 65536 → w i ≡ u i + sum_to k (tally t i j)
  pub le : (i : ℕ) → i < 65536 → w i ≤ u i + k

pub row_start : (t : Tree) (j : ℕ) (u : Bytes) → Row t j 2 u u
row_start t j u = record { eq = λ i l. omega (arith, two t i j); le = λ i l. omega arith }

pub row_turn : (t : Tree) (j k : ℕ) (u : Bytes) (l : List ℕ) (x c : ℕ) → Row t j k u (bytes l) → 2 ≤ k → x ≡ t.num j k → x < length l → c ≡ get_or l x 0 → Row t j (k + 1) u (bytes (set l x (c + 1)))
row_turn t j k u l x c r h e m q = record {
  eq = λ i a. elim (ℕ_discrete i x) [
    | yes z ↦ rw z (get_or-set_same l x (c + 1) 0 m ∙ omega (arith, r.eq x (rw z at a), q, sum_more k (tally t x j), tally-here t x j k h (sym e)))
    | no z ↦ get_or-set_other l x i (c + 1) 0 z ∙ omega (arith, r.eq i a, sum_more k (tally t i j), tally-other t i j k h (λ y. z (sym y ∙ sym e)))
  ];
  le = λ i a. elim (ℕ_discrete i x) [
    | yes z ↦ rw (z, get_or-set_same l x (c + 1) 0 m) (omega (arith, r.le x (rw z at a), q))
    | no z ↦ rw (get_or-set_other l x i (c + 1) 0 z) (omega (arith, r.le i a))
  ];
}

pub row_done : (v : Disk) (j k n : ℕ) (u w : Bytes) → Row (tree v) j k u w → Ends v j n → n ≤ k → 2 ≤ k → k ≤ 17152 → (i : ℕ) → i < 65536 → Added i (u i) (names_in (tree v) i j) (w i)
row_done v j k n u w r e l h m i a = record {
  eq = λ z. omega (arith, r.eq i a, sum_stop k 17152 (tally (tree v) i j) (λ q s. tally-other (tree v) i j q (omega arith) (λ y. let g = e.gone q (omega arith) in omega arith)) m);
  le = omega (arith, r.le i a);
}

-- ---- the loop over directories

pub all_turn : (t : Tree) (j : ℕ) (u w : Bytes) → ((i : ℕ) → i < 65536 → Upto t j i (u i)) → ((i : ℕ) → i < 65536 → Added i (u i) (names_in t i j) (w i)) → (i : ℕ) → i < 65536 → Upto t (j + 1) i (w i)
all_turn t j u w h a i l = record
    { eq = λ z. omega (arith, (a i l).eq z, (h i l).eq z, sum_more j (names_in t i)); le = omega (arith, (a i l).le, (h i l).le) }

pub all_start : (t : Tree) (u : Bytes) → ((i : ℕ) → i < 65536 → u i ≡ 0) → (i : ℕ) → i < 65536 → Upto t 0 i (u i)
unfolding sum_to
all_start t u h i l = record { eq = λ _. h i l; le = omega (arith, h i l) }

pub all_done : (g : Super) (t : Tree) (j : ℕ) (w : Bytes) → j ≡ g.ninodes → ((i : ℕ) → i < 65536 → Upto t j i (w i)) → Counts g t w
all_done g t j w e h i z l = (h i l).eq z ∙ ap (λ (x : ℕ). sum_to x (names_in t i)) e

-- ---- S7

-- inode i, which n entries name
pub record LinkOk (t : Tree) (i n : ℕ) : Type 0 where
  pub dir : t.kind i ≡ 1 → i ≢ 1 → t.nlink i ≡ 2
  pub other : 2 ≤ t.kind i → (t.nlink i ≡ n) × (1 ≤ t.nlink i) × (t.nlink i ≤ 32767)

module _ (g : Super) (d : Bytes) (ok : GoodNumbers g) (m : Bytes) (counts : Counts g (tree (disk g d)) m) where
  pub s7_to : (ino_of g d 1).nlink ≡ 1 → ((i : ℕ) → 0 < i → i < g.ninodes → LinkOk (tree (disk g d)) i (m i)) → S7 g (tree (disk g d))
  s7_to r f = record {
    root = r;
    dirs = λ i e n. let w = kind_in g d i (omega arith) in (f i w.0 w.1).dir e n;
    others = λ i h.
        let w = kind_in g d i (omega arith) in
        let x = (f i w.0 w.1).other h in
        (x.0 ∙ counts i w.0 (omega (arith, ok.inodes_most, w.1)), x.1, x.2);
  }

  pub s7_from : S7 g (tree (disk g d)) → (i : ℕ) → 0 < i → i < g.ninodes → LinkOk (tree (disk g d)) i (m i)
  s7_from s i p l = record {
    dir = s.dirs i;
    other = λ h. let x = s.others i h in (x.0 ∙ sym (counts i p (omega (arith, ok.inodes_most))), x.1, x.2);
  }

pub row_small : (t : Tree) (j k : ℕ) (u : Bytes) (l : List ℕ) (x : ℕ) → Row t j k u (bytes l) → x < 65536 → get_or l x 0 ≤ u x + k
row_small t j k u l x r h = r.le x h
