-- A freshly formatted card, of any good numbers, keeps all seven rules: `fresh_sound`. So the rules can be met, and format meets them.
-- Assumes nothing.
use Rattle.std.proofs.Math.Path.{◌≡◌, refl, sym, ap, subst}
use Rattle.std.proofs.Common.{◌∙◌, inl, inr}
use Rattle.std.specs.Prelude.{◌≢◌, cond, ◌&&◌, List, [], ◌∷◌, length, leb}
use Prim.Native.Nat.{ℕ, zero, suc, ◌+◌, ◌-◌, ◌*◌, ◌/◌, ◌%◌, ◌≤◌, ◌<◌}
use native.Mathlib.Omega.{arith}
use Rattle.std.proofs.Math.Decide.{ℕ_discrete, dec_lt}
use Rattle.std.proofs.Math.Dec.{eqb}
use borrow.Author.Tests.{lt-ltb, le-ltb, le-leb, lt-leb, ne_eqb}
use Rattle.base.specs.Bytes.{Bytes, bytes, put-at}
use Rattle.base.specs.Number.{get, le, le_cong, get_two}
use Rattle.base.specs.First.{sum_to, get_d_tabulate}
use Rattle.base.specs.Update.{upd_same, upd_other}
use Rattle.superblock.specs.declared.Super.{Super}
use Rattle.superblock.specs.declared.Entry.{Entry}
use Rattle.superblock.specs.Geometry.{GoodNumbers, super_of, data_start}
use Rattle.superblock.specs.Node.{Node, no_node}
use Rattle.superblock.specs.Disk.{Disk, disk}
use Rattle.superblock.specs.Entry.{entry_at, padded}
use Rattle.rules.specs.Fit.{Taken, Fit, slot, entry, held, count, slot_of, byte_of}
use Rattle.rules.specs.Tree.{tree, num_of, name_of, dots, SameName, tally, names}
use Rattle.rules.specs.Rules.{S3, S4, Dir, S5, S6, S7}
use Rattle.rules.specs.Sound.{Sound}
use Rattle.format.specs.Formatted.{root_node, root_block, dot, dotdot, zeros, fresh}
use Rattle.format.specs.Fresh.{fresh_disk, disk-fresh, super_fresh, good_fresh, log_fresh, root-dot, root-dotdot, root-rest}

sum_zero : (n : ℕ) (f : ℕ → ℕ) → ((k : ℕ) → k < n → f k ≡ 0) → sum_to n f ≡ 0
unfolding sum_to
sum_zero zero f h = refl
sum_zero (suc n) f h = omega (arith, sum_zero n f (λ k l. h k (omega arith)), h n (omega arith))

four_zeros : le 4 zeros ≡ 0
unfolding le
four_zeros = refl

module _ (g : Super) (ok : GoodNumbers g) where
  v : Disk
  v = fresh_disk g

  ino_root : v.ino 1 ≡ root_node (data_start g)
  unfolding v
  ino_root = upd_same (λ i. no_node) 1 (root_node (data_start g))

  ino_free : (i : ℕ) → i ≢ 1 → v.ino i ≡ no_node
  unfolding v
  ino_free i z = upd_other (λ i. no_node) 1 (root_node (data_start g)) i z

  -- one slot is in use
  one : (i p : ℕ) → p < count v i → (i ≡ 1) × (p ≡ 0)
  unfolding no_node
  one i p h = elim (ℕ_discrete i 1) [
    | yes z ↦ let h₁ : p < 1 = rw (z, ino_root) at h in (z, omega arith)
    | no z ↦ absurd (let h₁ : p < 0 = rw (ino_free i z) at h in omega arith)
  ]

  root_addr : (p : ℕ) → p ≢ 0 → (root_node (data_start g)).addr p ≡ 0
  root_addr p z = upd_other (λ p. 0) 0 (data_start g) p z

  slot-first : slot v.mem (root_node (data_start g)) 0 ≡ data_start g
  unfolding slot
  slot-first = upd_same (λ p. 0) 0 (data_start g)

  no_entry : (m : Bytes) (b k : ℕ) → b ≡ 0 → entry m b k ≡ 0
  unfolding entry
  no_entry m zero k e = refl
  no_entry m (suc b) k e = absurd (omega arith)

  slot-rest : (p : ℕ) → 1 ≤ p → slot v.mem (root_node (data_start g)) p ≡ 0
  unfolding slot
  slot-rest p h = elim (dec_lt p 13) [
    | yes l ↦ rw (lt-ltb p 13 l) (root_addr p (omega arith))
    | no l ↦ rw (le-ltb p 13 (omega arith)) (no_entry v.mem ((root_node (data_start g)).addr 12) (p - 13) (root_addr 12 (omega arith)))
  ]

  root-held : held v 1 0 ≡ data_start g
  root-held = rw ino_root slot-first

  set_bit : (b : ℕ) → b ≤ data_start g → v.bit b ≡ 1
  unfolding v
  set_bit b h = rw (lt-ltb b (data_start g + 1) (omega arith))

  clear_bit : (b : ℕ) → v.bit b ≡ 1 → b ≤ data_start g
  unfolding v
  clear_bit b h = elim (dec_lt b (data_start g + 1)) [
    | yes l ↦ omega arith
    | no l ↦ let z : ◌≡◌ {A = ℕ} 0 1 = rw (le-ltb b (data_start g + 1) (omega arith)) at h in omega arith
  ]

  root_fit : Fit g v (root_node (data_start g))
  root_fit = record {
    shape = record { used = omega arith; known = omega arith; small = omega arith; dir = λ _. (omega arith, refl); dev = λ e. absurd (omega arith) };
    first = λ p h. first p (omega arith);
    rest = λ p h l. slot-rest p (omega arith);
  }
    where
      first : (p : ℕ) → p ≡ 0 → Taken g v (slot v.mem (root_node (data_start g)) p)
      first p e = rw (e, slot-first) (record { low = omega arith; high = omega (arith, ok.laid.nblocks, ok.laid.some); is_set = set_bit (data_start g) (omega arith) })

  fresh-S3 : S3 g v
  unfolding no_node
  fresh-S3 = record {
    root = rw ino_root;
    each = λ i. elim (ℕ_discrete i 1) [
      | yes z ↦ rw (z, ino_root) (inr root_fit)
      | no z ↦ rw (ino_free i z) (inl refl)
    ];
  }

  fresh-S4 : S4 g v
  fresh-S4 = record {
    once = λ i j p q h l _. let e = one i p h in let f = one j q l in (e.0 ∙ sym f.0, e.1 ∙ sym f.1);
    low = λ b h. set_bit b (omega arith);
    taken = λ i p h. let e = one i p h in rw (e.0, e.1, root-held) (set_bit (data_start g) (omega arith));
    only = λ b l h. record { i = 1; p = 0; live = rw ino_root (omega arith); here = root-held ∙ omega (arith, clear_bit b h) };
  }

  -- ---- the root's entries

  byte_root : (z : ℕ) → z < 1024 → byte_of v 1 z ≡ root_block z
  unfolding v
  byte_root z h =
      let q : slot_of (z / 1024) ≡ 0 = omega arith in
      let m : z % 1024 ≡ z = omega arith in
      ap (λ (y : ℕ). v.mem (held v 1 y * 1024 + z % 1024)) q ∙ ap (λ (y : ℕ). v.mem (y * 1024 + z % 1024)) root-held
      ∙ ap (λ (y : ℕ). v.mem (data_start g * 1024 + y)) m ∙ put-at zeros (data_start g * 1024) 1024 root_block z h

  not_root : (i : ℕ) → i ≢ 1 → (v.ino i).kind ≡ 0
  unfolding no_node
  not_root i z = rw (ino_free i z)

  is_root : (i : ℕ) → (v.ino i).kind ≡ 1 → i ≡ 1
  is_root i h = elim (ℕ_discrete i 1) [ yes e ↦ e | no e ↦ absurd (let y : ◌≡◌ {A = ℕ} 0 1 = sym (not_root i e) ∙ h in omega arith) ]

  num_far : (i k : ℕ) → i ≢ 1 → num_of v i k ≡ 0
  unfolding num_of
  num_far i k z = rw (not_root i z)

  num_root : (k : ℕ) → 16 * k < 1024 → num_of v 1 k ≡ root_block (16 * k) + 256 * root_block (16 * k + 1)
  unfolding num_of
  num_root k h = rw (ino_root, lt-ltb (16 * k) 1024 h) (omega (arith, byte_root (16 * k) h, byte_root (16 * k + 1) (omega arith)))

  num_out : (k : ℕ) → ¬ (16 * k < 1024) → num_of v 1 k ≡ 0
  unfolding num_of
  num_out k l = rw (ino_root, le-ltb (16 * k) 1024 (omega arith))

  num_past : (k : ℕ) → 2 ≤ k → num_of v 1 k ≡ 0
  num_past k h = elim (dec_lt (16 * k) 1024) [
    | yes l ↦ num_root k l ∙ omega (arith, root-rest (16 * k) (omega arith), root-rest (16 * k + 1) (omega arith))
    | no l ↦ num_out k l
  ]

  num_none : (j k : ℕ) → 2 ≤ k → num_of v j k ≡ 0
  num_none j k h = elim (ℕ_discrete j 1) [ yes e ↦ rw e (num_past k h) | no e ↦ num_far j k e ]

  name_root : (k t : ℕ) → 16 * k < 1024 → t < 14 → name_of v 1 k t ≡ root_block (16 * k + 2 + t)
  unfolding name_of
  name_root k t h l = rw (ino_root, lt-ltb (16 * k) 1024 h, lt-ltb t 14 l) (byte_root (16 * k + 2 + t) (omega arith))

  -- what an entry of its block says
  entry_num : (a : ℕ) (e : Entry) → entry_at root_block a ≡ e → get root_block (a + 0) 2 ≡ e.inum
  unfolding entry_at
  entry_num a e h = ap (λ (x : Entry). x.inum) h

  entry_name : (a : ℕ) (e : Entry) → entry_at root_block a ≡ e → (t : ℕ) → t < 14 → root_block (a + 2 + t) ≡ bytes e.name t
  unfolding entry_at
  entry_name a e h t l = sym (get_d_tabulate (λ k. root_block (a + 2 + k)) 14 t l) ∙ ap (λ (x : Entry). bytes x.name t) h

  num_0 : num_of v 1 0 ≡ 1
  num_0 = num_root 0 (omega arith) ∙ sym (get_two root_block 0) ∙ entry_num 0 dot root-dot

  num_1 : num_of v 1 1 ≡ 1
  num_1 = num_root 1 (omega arith) ∙ sym (get_two root_block 16) ∙ entry_num 16 dotdot root-dotdot

  one_dot : (t : ℕ) → bytes (46 ∷ []) t ≡ dots 1 t
  unfolding dots
  one_dot zero = refl
  one_dot (suc t) = sym (rw (le-ltb (suc t) 1 (omega arith)))

  two_dots : (t : ℕ) → bytes (46 ∷ 46 ∷ []) t ≡ dots 2 t
  unfolding dots
  two_dots zero = refl
  two_dots (suc zero) = refl
  two_dots (suc (suc t)) = sym (rw (le-ltb (suc (suc t)) 2 (omega arith)))

  name_0 : SameName (name_of v 1 0) (dots 1)
  unfolding padded
  name_0 t l = name_root 0 t (omega arith) l ∙ entry_name 0 dot root-dot t l ∙ get_d_tabulate (bytes (46 ∷ [])) 14 t l ∙ one_dot t

  name_1 : SameName (name_of v 1 1) (dots 2)
  unfolding padded
  name_1 t l = name_root 1 t (omega arith) l ∙ entry_name 16 dotdot root-dotdot t l ∙ get_d_tabulate (bytes (46 ∷ 46 ∷ [])) 14 t l ∙ two_dots t

  low_entry : (k : ℕ) → num_of v 1 k ≢ 0 → k < 2
  low_entry k h = elim (dec_lt k 2) [ yes l ↦ l | no l ↦ absurd (h (num_past k (omega arith))) ]

  -- "." and ".." differ in their second byte
  differ : SameName (name_of v 1 0) (name_of v 1 1) → ⊥
  differ s =
      let e : dots 1 1 ≡ dots 2 1 = sym (name_0 1 (omega arith)) ∙ s 1 (omega arith) ∙ name_1 1 (omega arith) in
      let z : ◌≡◌ {A = ℕ} 0 46 = one_dot 1 ∙ e ∙ sym (two_dots 1) in omega arith

  same_low : (k l : ℕ) → k < 2 → l < 2 → SameName (name_of v 1 k) (name_of v 1 l) → k ≡ l
  same_low zero zero a b s = refl
  same_low zero (suc zero) a b s = absurd (differ s)
  same_low zero (suc (suc l)) a b s = omega arith
  same_low (suc zero) zero a b s = absurd (differ (λ t h. sym (s t h)))
  same_low (suc zero) (suc zero) a b s = refl
  same_low (suc zero) (suc (suc l)) a b s = omega arith
  same_low (suc (suc k)) l a b s = omega arith

  root_dir : Dir (tree v) 1
  root_dir = record {
    self = num_0;
    self_name = name_0;
    up_name = name_1;
    live = λ k h z. absurd (z (num_past k h));
    named = λ k h z. absurd (z (num_past k h));
    once = λ k l a b s. same_low k l (low_entry k a) (low_entry l b) s;
  }

  fresh-S5 : S5 (tree v)
  fresh-S5 = record { each = λ i h. rw (is_root i h) root_dir }

  no_names : (i : ℕ) → 1 ≤ i → names g (tree v) i ≡ 0
  unfolding tally
  no_names i h = sum_zero g.ninodes _ (λ j _. sum_zero 17152 _ (λ k _. none j k))
    where
      none : (j k : ℕ) → ◌≡◌ {A = ℕ} (cond (leb 2 k && eqb (num_of v j k) i) 1 0) 0
      none j k = elim (dec_lt k 2) [
        | yes l ↦ rw (lt-leb 2 k l)
        | no l ↦ rw (le-leb 2 k (omega arith), ne_eqb (num_of v j k) i (omega (arith, num_none j k (omega arith))))
      ]

  fresh-S6 : S6 g (tree v)
  fresh-S6 = record { root_up = num_1; root_once = no_names 1 (omega arith); below = λ i h z. absurd (z (is_root i h)) }

  fresh-S7 : S7 g (tree v)
  fresh-S7 = record { root = ap (λ (r : Node). r.nlink) ino_root; dirs = λ i h z. absurd (z (is_root i h)); others = λ i h. absurd (only_dirs i h) }
    where
      only_dirs : (i : ℕ) → 2 ≤ (v.ino i).kind → ⊥
      only_dirs i h = elim (ℕ_discrete i 1) [
        | yes e ↦ let y : 2 ≤ 1 = rw (e, ino_root) at h in omega arith
        | no e ↦ omega (arith, not_root i e)
      ]

  -- an image with just the bytes that format writes for these numbers is sound
  pub fresh_sound : (image : List ℕ) → bytes image ≡ fresh g → length image ≡ g.size * 1024 → Sound image
  unfolding v
  fresh_sound image e l = record {
    s1 = record { good = good_fresh g ok image e l };
    s2 = record { empty = ap (λ (d : Bytes). get d 2048 4) e ∙ le_cong 4 (λ k. fresh g (2048 + k)) zeros (λ k h. log_fresh g ok (2048 + k) (omega arith) (omega (arith, ok.laid.inodestart, ok.log_least))) ∙ four_zeros };
    s3 = by (λ s d. S3 s (disk s d)) (subst (λ (w : Disk). S3 g w) (sym (disk-fresh g ok)) fresh-S3);
    s4 = by (λ s d. S4 s (disk s d)) (subst (λ (w : Disk). S4 g w) (sym (disk-fresh g ok)) fresh-S4);
    s5 = by (λ s d. S5 (tree (disk s d))) (subst (λ (w : Disk). S5 (tree w)) (sym (disk-fresh g ok)) fresh-S5);
    s6 = by (λ s d. S6 s (tree (disk s d))) (subst (λ (w : Disk). S6 g (tree w)) (sym (disk-fresh g ok)) fresh-S6);
    s7 = by (λ s d. S7 s (tree (disk s d))) (subst (λ (w : Disk). S7 g (tree w)) (sym (disk-fresh g ok)) fresh-S7);
  }
    where
      -- of the card's own numbers
      by : (P : Super → Bytes → Type 0) → P g (fresh g) → P (super_of (bytes image)) (bytes image)
      by P p = subst (λ (d : Bytes). P (super_of d) d) (sym e) (subst (λ (s : Super). P s (fresh g)) (sym (super_fresh g ok)) p)
