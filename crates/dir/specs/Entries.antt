-- A directory's entries as the code reads them in a memory, and that this is the lookup on the tree for a fit directory. Assumes nothing.
use Rattle.std.specs.Prelude.{◌≡◌, Bool, Option, Some, None, ℕ, ◌+◌, ◌-◌, ◌*◌, ◌/◌, ◌%◌, ◌≤◌, ◌<◌, min, eqb}
use Rattle.std.proofs.Math.Path.{refl, sym, ap}
use Rattle.std.proofs.Common.{◌∙◌}
use Rattle.std.proofs.Math.Bool.{true, false, cond}
use native.Mathlib.Omega.{arith}
use Rattle.std.proofs.Math.Dec.{ltb}
use borrow.Author.Tests.{eq-eqb, ne_eqb, lt-ltb, le-ltb, ltb-true, ltb-false}
use Rattle.base.specs.First.{first, first-at, first-none, first_before, first_holds, first-same}
use Rattle.base.specs.Bytes.{Bytes}
use Rattle.base.specs.Number.{get, get_two, get_moved}
use Rattle.superblock.specs.declared.Super.{Super}
use Rattle.superblock.specs.declared.Inode.{Inode}
use Rattle.superblock.specs.Node.{Node, node}
use Rattle.superblock.specs.Disk.{disk, ino_of}
use Rattle.rules.specs.Fit.{Fit, slot, slot_of, byte_of}
use Rattle.rules.specs.Tree.{tree, num_of, name_of, is_entry}
use Rattle.inode.specs.Content.{content}
use Rattle.path.specs.Search.{found, found-some, found-none}
use Rattle.path.specs.Names.{same_name, same_cong}
use Rattle.dir.specs.Lookup.{has_name, entry_of, lookup, found_at}
use Rattle.dir.specs.declared.Found.{Found}

-- the entry at address a is live and has the name
unfoldable pub entry_is : Bytes → Bytes → ℕ → Bool
entry_is d name a = cond (eqb (get d a 2) 0) false (same_name (λ t. d (a + 2 + t)) name)

-- where entry k of the directory f is
unfoldable pub entry_addr : Bytes → Inode → ℕ → ℕ
entry_addr d f k = slot d (node f) (slot_of (k / 64)) * 1024 + 16 * (k % 64)

unfoldable pub look_index : Bytes → Inode → Bytes → ℕ
look_index d f name = first (λ k. entry_is d name (entry_addr d f k)) (f.size / 16)

-- what the code finds
unfoldable pub look_in : Bytes → Inode → Bytes → Option Found
look_in d f name = cond (ltb (look_index d f name) (f.size / 16)) (Some (found_at (get d (entry_addr d f (look_index d f name)) 2) (look_index d f name))) None

-- ---- the code's places

pub entry_at : (d : Bytes) (f : Inode) (b j : ℕ) → j < 64 → entry_addr d f (b * 64 + j) ≡ slot d (node f) (slot_of b) * 1024 + 16 * j
unfolding entry_addr
entry_at d f b j h =
    let q : (b * 64 + j) / 64 ≡ b = omega arith in
    let m : (b * 64 + j) % 64 ≡ j = omega arith in
    rw (q, m)

pub entry_free : (d name : Bytes) (a x : ℕ) → x ≡ get d a 2 → x ≡ 0 → entry_is d name a ≡ false
unfolding entry_is
entry_free d name a x e z = rw (eq-eqb (get d a 2) 0 (sym e ∙ z))

pub entry-live : (d name : Bytes) (a x : ℕ) → x ≡ get d a 2 → (x ≡ 0 → ⊥) → (t : Bool) → t ≡ same_name (λ t. d (a + 2 + t)) name → entry_is d name a ≡ t
unfolding entry_is
entry-live d name a x e n t h = rw (ne_eqb (get d a 2) 0 (λ z. n (e ∙ z))) (sym h)

entry_moved : (d e : Bytes) (o n : ℕ) → ((i : ℕ) → i < n → d i ≡ e (o + i)) → (name : Bytes) (a : ℕ) → a + 15 < n → entry_is d name a ≡ entry_is e name (o + a)
unfolding entry_is
entry_moved d e o n same name a l =
    rw (
      get_moved d e o n same a 2 (omega arith),
      same_cong (λ t. d (a + 2 + t)) (λ t. e (o + a + 2 + t)) name (λ t h. same (a + 2 + t) (omega arith) ∙ ap e (omega arith)),
    )

module _ (d : Bytes) (f : Inode) (name : Bytes) where
  look_at : (k : ℕ) → k < f.size / 16 → ((j : ℕ) → j < k → entry_is d name (entry_addr d f j) ≡ false) → entry_is d name (entry_addr d f k) ≡ true → look_in d f name ≡ Some (found_at (get d (entry_addr d f k) 2) k)
  unfolding look_in look_index
  look_at k l h t = rw (first-at (λ k. entry_is d name (entry_addr d f k)) (f.size / 16) k l h t, lt-ltb _ _ l)

  pub look_none : ((j : ℕ) → j < f.size / 16 → entry_is d name (entry_addr d f j) ≡ false) → look_in d f name ≡ None
  unfolding look_in look_index
  look_none h = rw (first-none (λ k. entry_is d name (entry_addr d f k)) (f.size / 16) h, le-ltb (f.size / 16) (f.size / 16) (omega arith))

-- one block of a directory, read as a memory d of its own: what a search of its entries says of the directory
module _ (d e : Bytes) (f : Inode) (name : Bytes) (b at count n : ℕ) (same : (i : ℕ) → i < 1024 → d i ≡ e (at * 1024 + i)) (is : at ≡ slot e (node f) (slot_of b)) (all : n ≡ f.size / 16)
    (some : count ≡ min (n - b * 64) 64) where
  here : (j : ℕ) → j < 64 → entry_is d name (16 * j) ≡ entry_is e name (entry_addr e f (b * 64 + j))
  here j h = entry_moved d e (at * 1024) 1024 same name (16 * j) (omega arith) ∙ ap (entry_is e name) (ap (λ (x : ℕ). x * 1024 + 16 * j) is ∙ sym (entry_at e f b j h))

  pub block_passed : found (λ j. entry_is d name (16 * j)) count ≡ None
      → ((j : ℕ) → j < b * 64 → j < f.size / 16 → entry_is e name (entry_addr e f j) ≡ false)
      → (j : ℕ) → j < (b + 1) * 64 → j < f.size / 16 → entry_is e name (entry_addr e f j) ≡ false
  block_passed q inv j l h = go (ltb j (b * 64)) refl
    where
      go : (t : Bool) → ltb j (b * 64) ≡ t → entry_is e name (entry_addr e f j) ≡ false
      go true x = inv j (ltb-true j (b * 64) x) h
      go false x =
          let y : b * 64 ≤ j = ltb-false j (b * 64) x in
          let z : b * 64 + (j - b * 64) ≡ j = omega arith in
          rw z at (sym (here (j - b * 64) (omega arith)) ∙ found-none (λ j. entry_is d name (16 * j)) count q (j - b * 64) (omega arith))

  pub block-found : (k x y : ℕ) → found (λ j. entry_is d name (16 * j)) count ≡ Some k
      → ((j : ℕ) → j < b * 64 → j < f.size / 16 → entry_is e name (entry_addr e f j) ≡ false)
      → x ≡ get d (16 * k) 2 → y ≡ b * 64 + k → Some (found_at x y) ≡ look_in e f name
  block-found k x y hit inv ex ey =
      let q = (found-some (λ j. entry_is d name (16 * j)) count k hit).0 in
      let m : k < count = (found-some (λ j. entry_is d name (16 * j)) count k hit).1 in
      let c : k < 64 = omega arith in
      let n : b * 64 + k < f.size / 16 = omega arith in
      let r : get e (entry_addr e f (b * 64 + k)) 2 ≡ get d (16 * k) 2 = ap (λ (a : ℕ). get e a 2) (entry_at e f b k c ∙ ap (λ (x : ℕ). x * 1024 + 16 * k) (sym is)) ∙ sym (get_moved d e (at * 1024) 1024 same (16 * k) 2 (omega arith)) in
      let g : first (λ j. entry_is d name (16 * j)) count < count = omega arith in
      let t : entry_is d name (16 * k) ≡ true = rw q (first_holds (λ j. entry_is d name (16 * j)) count g) in
      rw (ex, ey) (sym (look_at e f name (b * 64 + k) n before (sym (here k c) ∙ t) ∙ ap (λ (x : ℕ). Some (found_at x (b * 64 + k))) r))
    where
      before : (j : ℕ) → j < b * 64 + k → entry_is e name (entry_addr e f j) ≡ false
      before j l = go (ltb j (b * 64)) refl
        where
          go : (t : Bool) → ltb j (b * 64) ≡ t → entry_is e name (entry_addr e f j) ≡ false
          go true x = inv j (ltb-true j (b * 64) x) (omega (arith, (found-some (λ j. entry_is d name (16 * j)) count k hit).1))
          go false x =
              let y : b * 64 ≤ j = ltb-false j (b * 64) x in
              let z : b * 64 + (j - b * 64) ≡ j = omega arith in
              let q = found-some (λ j. entry_is d name (16 * j)) count k hit in
              rw z at (sym (here (j - b * 64) (omega arith)) ∙ first_before (λ j. entry_is d name (16 * j)) count (j - b * 64) (omega arith))

-- ---- on the tree

-- for a fit directory, what the code finds in the memory is the lookup on the tree of its Disk
module _ (s : Super) (d : Bytes) (f : Inode) (i : ℕ) (is : node f ≡ ino_of s d i) (dir : f.kind ≡ 1) (fit : Fit s (disk s d) (node f)) (name : Bytes) where
  kind_is : (ino_of s d i).kind ≡ 1
  kind_is = ap (λ (r : Node). r.kind) (sym is) ∙ dir

  size_is : (ino_of s d i).size ≡ f.size
  size_is = ap (λ (r : Node). r.size) (sym is)

  entry_there : (k : ℕ) → k < f.size / 16 → is_entry (disk s d) i k ≡ true
  entry_there k h = rw (kind_is, size_is, eq-eqb 1 1 refl, lt-ltb (16 * k) f.size (omega arith))

  -- byte x of entry k
  entry_byte : (k x : ℕ) → k < f.size / 16 → x < 16 → byte_of (disk s d) i (16 * k + x) ≡ d (entry_addr d f k + x)
  unfolding entry_addr
  entry_byte k x h l =
      let q : (16 * k + x) / 1024 ≡ k / 64 = omega arith in
      let m : (16 * k + x) % 1024 ≡ 16 * (k % 64) + x = omega arith in
      content s d (node f) fit i (16 * k + x) (sym is) (omega (arith, (fit.shape.dir dir).1))
      ∙ rw (q, m) (ap d (omega arith))

  pub num_is : (k : ℕ) → k < f.size / 16 → (tree (disk s d)).num i k ≡ get d (entry_addr d f k) 2
  unfolding num_of
  num_is k h =
      let z : 16 * k ≡ 16 * k + 0 = omega arith in
      rw (entry_there k h) (omega (arith, get_two d (entry_addr d f k), ap (byte_of (disk s d) i) z ∙ entry_byte k 0 h (omega arith), entry_byte k 1 h (omega arith)))

  name_is : (k t : ℕ) → k < f.size / 16 → t < 14 → (tree (disk s d)).name i k t ≡ d (entry_addr d f k + 2 + t)
  unfolding name_of
  name_is k t h l =
      let z : 16 * k + 2 + t ≡ 16 * k + (2 + t) = omega arith in
      rw (entry_there k h, lt-ltb t 14 l) (ap (byte_of (disk s d) i) z ∙ entry_byte k (2 + t) h (omega arith) ∙ ap d (omega arith))

  has_is : (k : ℕ) → k < f.size / 16 → entry_is d name (entry_addr d f k) ≡ has_name (tree (disk s d)) i name k
  unfolding entry_is has_name
  has_is k h =
      rw (num_is k h, same_cong ((tree (disk s d)).name i k) (λ t. d (entry_addr d f k + 2 + t)) name (λ t l. name_is k t h l))

  pub look_is : look_in d f name ≡ lookup (disk s d) i name
  unfolding look_in look_index lookup entry_of
  look_is =
      let e : first (has_name (tree (disk s d)) i name) (f.size / 16) ≡ look_index d f name = sym (first-same (λ k. entry_is d name (entry_addr d f k)) (has_name (tree (disk s d)) i name) (f.size / 16) has_is) in
      rw (size_is, e) (go (ltb (look_index d f name) (f.size / 16)) refl)
    where
      go : (t : Bool) → ltb (look_index d f name) (f.size / 16) ≡ t
          → cond t (Some (found_at (get d (entry_addr d f (look_index d f name)) 2) (look_index d f name))) None ≡ cond t (Some (found_at ((tree (disk s d)).num i (look_index d f name)) (look_index d f name))) None
      go true q = ap (λ (x : ℕ). Some (found_at x (look_index d f name))) (sym (num_is (look_index d f name) (ltb-true _ _ q)))
      go false q = refl
