-- Good slots stay good when a reference is returned and when one is taken. Assumes nothing.
use Rattle.std.specs.Prelude.{◌≡◌, List, ℕ, ◌+◌, ◌-◌, ◌≤◌, ◌<◌, length, get_or, set}
use Rattle.std.proofs.Common.{sym, ap, ◌∙◌, arith, length-set, get_or-set_same, get_or-set_other}
use Rattle.std.proofs.Math.Decide.{ℕ_discrete, dec_lt}
use Rattle.std.proofs.Math.ListN.{get_or-eq_default}
use Rattle.base.specs.First.{first, first_before, first_holds}
use Rattle.base.specs.Decide.{never}
use Rattle.state.specs.Whole.{GoodSlots}
use Rattle.state.specs.Slots.{uses, slot_of, slot-found, slot_is}
use Rattle.slots.specs.Handles.{slot_for, for_held}

-- a store that makes no number larger
set_less : (l : List ℕ) (k x j : ℕ) → x ≤ get_or l k 0 → get_or (set l k x) j 0 ≤ get_or l j 0
set_less l k x j h = elim (ℕ_discrete j k) [
  | yes z ↦ rw z (elim (dec_lt k (length l)) [
    | yes m ↦ omega (arith, get_or-set_same l k x 0 m)
    | no m ↦ omega (arith, get_or-eq_default (set l k x) 0 {n = k} (simp length-set (omega arith)))
  ])
  | no z ↦ omega (arith, get_or-set_other l k j x 0 z)
]

-- a reference returned
pub good_less : (inums refs : List ℕ) (ninodes k : ℕ) → GoodSlots inums refs ninodes → GoodSlots inums (set refs k (get_or refs k 0 - 1)) ninodes
good_less inums refs ninodes k g = record {
  low = λ j h u. g.low j h (was j u);
  high = λ j h u. g.high j h (was j u);
  count = λ j h u. omega (arith, less j, g.count j h (was j u));
  distinct = λ i j a b u v e. g.distinct i j a b (was i u) (was j v) e;
}
  where
    less : (j : ℕ) → get_or (set refs k (get_or refs k 0 - 1)) j 0 ≤ get_or refs j 0
    less j = set_less refs k (get_or refs k 0 - 1) j (omega arith)

    was : (j : ℕ) → 0 < get_or (set refs k (get_or refs k 0 - 1)) j 0 → 0 < get_or refs j 0
    was j u = omega (arith, less j)

-- the slot that is in use for inode i is the one
pub slot_only : (inums refs : List ℕ) (ninodes i m : ℕ) → GoodSlots inums refs ninodes → m < 50 → 0 < get_or refs m 0 → get_or inums m 0 ≡ i → slot_of inums refs i 50 ≡ m
unfolding slot_of
slot_only inums refs ninodes i m g h u e =
    let s = slot_is inums refs i (first (uses inums refs i) 50) (first_holds (uses inums refs i) 50 below) in
    g.distinct (first (uses inums refs i) 50) m below h s.0 u (s.1 ∙ sym e)
  where
    below : first (uses inums refs i) 50 < 50
    below = elim (dec_lt m (first (uses inums refs i) 50)) [
      | yes p ↦ never (sym (first_before (uses inums refs i) 50 m p) ∙ slot-found inums refs i m (omega arith) e)
      | no p ↦ omega arith
    ]

-- a reference taken on the slot for inode i
pub good_more : (inums refs : List ℕ) (ninodes i : ℕ) → length inums ≡ 50 → length refs ≡ 50 → GoodSlots inums refs ninodes → 1 ≤ i → i < ninodes
    → slot_for inums refs i < 50 → get_or refs (slot_for inums refs i) 0 < 1000
    → GoodSlots (set inums (slot_for inums refs i) i) (set refs (slot_for inums refs i) (get_or refs (slot_for inums refs i) 0 + 1)) ninodes
good_more inums refs ninodes i li lr g a b h c = record {
  low = λ j l u. elim (ℕ_discrete j k) [ yes z ↦ rw (z, num_here) a | no z ↦ rw (num_other j z) (g.low j l (rw (ref_other j z) at u)) ];
  high = λ j l u. elim (ℕ_discrete j k) [ yes z ↦ rw (z, num_here) b | no z ↦ rw (num_other j z) (g.high j l (rw (ref_other j z) at u)) ];
  count = λ j l u. elim (ℕ_discrete j k) [ yes z ↦ rw (z, ref_here) (omega arith) | no z ↦ rw (ref_other j z) (g.count j l (rw (ref_other j z) at u)) ];
  distinct = λ j m l n u v e. elim (ℕ_discrete j k) [
    | yes z ↦ elim (ℕ_discrete m k) [
      | yes y ↦ z ∙ sym y
      | no y ↦ absurd (y (sym (lone m n (rw (ref_other m y) at v) (sym (num_other m y) ∙ sym e ∙ ap (λ (x : ℕ). get_or inums' x 0) z ∙ num_here))))
    ]
    | no z ↦ elim (ℕ_discrete m k) [
      | yes y ↦ absurd (z (sym (lone j l (rw (ref_other j z) at u) (sym (num_other j z) ∙ e ∙ ap (λ (x : ℕ). get_or inums' x 0) y ∙ num_here))))
      | no y ↦ g.distinct j m l n (rw (ref_other j z) at u) (rw (ref_other m y) at v) (sym (num_other j z) ∙ e ∙ num_other m y)
    ]
  ];
}
  where
    k : ℕ
    k = slot_for inums refs i

    inums' : List ℕ
    inums' = set inums (slot_for inums refs i) i

    num_here : get_or (set inums (slot_for inums refs i) i) (slot_for inums refs i) 0 ≡ i
    num_here = get_or-set_same inums (slot_for inums refs i) i 0 (omega arith)

    num_other : (j : ℕ) → (j ≡ slot_for inums refs i → ⊥) → get_or (set inums (slot_for inums refs i) i) j 0 ≡ get_or inums j 0
    num_other j z = get_or-set_other inums (slot_for inums refs i) j i 0 z

    ref_here : get_or (set refs (slot_for inums refs i) (get_or refs (slot_for inums refs i) 0 + 1)) (slot_for inums refs i) 0 ≡ get_or refs (slot_for inums refs i) 0 + 1
    ref_here = get_or-set_same refs (slot_for inums refs i) (get_or refs (slot_for inums refs i) 0 + 1) 0 (omega arith)

    ref_other : (j : ℕ) → (j ≡ slot_for inums refs i → ⊥) → get_or (set refs (slot_for inums refs i) (get_or refs (slot_for inums refs i) 0 + 1)) j 0 ≡ get_or refs j 0
    ref_other j z = get_or-set_other refs (slot_for inums refs i) j (get_or refs (slot_for inums refs i) 0 + 1) 0 z

    lone : (m : ℕ) → m < 50 → 0 < get_or refs m 0 → get_or inums m 0 ≡ i → slot_for inums refs i ≡ m
    lone m n u e =
        let s = slot_only inums refs ninodes i m g n u e in
        for_held inums refs i (omega arith) ∙ s
