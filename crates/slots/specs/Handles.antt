-- Which slot an inode is opened in, and when a handle is good. Assumes nothing.
use Rattle.std.specs.Prelude.{◌≡◌, ◌≢◌, cond, not, List, ℕ, ◌≤◌, ◌<◌, get_or, eqb, ltb}
use Rattle.std.proofs.Common.{sym, ap, ◌∙◌, arith, lt-ltb, le-ltb, eqb-true}
use Rattle.std.proofs.lemmas.Bool.{eqb-false}
use Rattle.base.specs.First.{first}
use Rattle.base.specs.Decide.{Decides, ne_decides, alike}
use Rattle.state.specs.Slots.{slot_of}
use Rattle.state.specs.declared.Handle.{Handle}

-- the lowest free slot, 50 where none is free
unfoldable pub free_slot : List ℕ → ℕ
free_slot refs = first (λ k. eqb (get_or refs k 0) 0) 50

-- the slot that holds inode i, else the lowest free one, else 50
unfoldable pub slot_for : List ℕ → List ℕ → ℕ → ℕ
slot_for inums refs i = cond (ltb (slot_of inums refs i 50) 50) (slot_of inums refs i 50) (free_slot refs)

-- k is a slot, and its count is not 1,000
pub record Room (refs : List ℕ) (k : ℕ) : Type 0 where
  pub slot : k < 50
  pub below : get_or refs k 0 ≢ 1000

-- a handle is good while its slot is in use for its inode number
pub record GoodHandle (inums refs : List ℕ) (h : Handle) : Type 0 where
  pub slot : h.slot < 50
  pub used : 0 < get_or refs h.slot 0
  pub inode : get_or inums h.slot 0 ≡ h.inum

-- ---- laws

module _ (inums refs : List ℕ) (i : ℕ) where
  pub for_held : slot_of inums refs i 50 < 50 → slot_for inums refs i ≡ slot_of inums refs i 50
  unfolding slot_for
  for_held h = rw (lt-ltb _ _ h)

  pub for_free : 50 ≤ slot_of inums refs i 50 → slot_for inums refs i ≡ free_slot refs
  unfolding slot_for
  for_free h = rw (le-ltb _ _ h)

-- the last test of a handle
pub handle_last : (inums refs : List ℕ) (h : Handle) (k : ℕ) → k ≡ h.slot → k < 50 → (get_or refs k 0 ≡ 0 → ⊥)
    → Decides (eqb (get_or inums k 0) h.inum) (GoodHandle inums refs h)
handle_last inums refs h k e l u = record {
  true_is = λ q. record {
    slot = omega arith;
    used = omega (arith, ap (λ (x : ℕ). get_or refs x 0) e);
    inode = ap (λ (x : ℕ). get_or inums x 0) (sym e) ∙ eqb-true (get_or inums k 0) h.inum q;
  };
  false_is = λ q g. eqb-false (get_or inums k 0) h.inum q (ap (λ (x : ℕ). get_or inums x 0) e ∙ g.inode);
}

-- a handle to a free slot
pub handle_free : (inums refs : List ℕ) (h : Handle) (k : ℕ) → k ≡ h.slot → get_or refs k 0 ≡ 0 → GoodHandle inums refs h → ⊥
handle_free inums refs h k e z g = omega (arith, g.used, ap (λ (x : ℕ). get_or refs x 0) e)

-- the two answers of a search for a slot
pub found-held : (inums refs : List ℕ) (i k : ℕ) → k ≡ slot_of inums refs i 50 → k < 50 → k ≡ slot_for inums refs i
found-held inums refs i k e h = e ∙ sym (for_held inums refs i (omega arith))

pub found_free : (inums refs : List ℕ) (i k f : ℕ) → k ≡ slot_of inums refs i 50 → 50 ≤ k → f ≡ free_slot refs → f ≡ slot_for inums refs i
found_free inums refs i k f e h z = z ∙ sym (for_free inums refs i (omega arith))

-- the test of a slot's count
pub room_test : (refs : List ℕ) (k : ℕ) → k < 50 → Decides (not (eqb (get_or refs k 0) 1000)) (Room refs k)
room_test refs k h = alike (λ n. record { slot = h; below = n }) (λ r. r.below) (ne_decides (get_or refs k 0) 1000)
