-- Handle slots: the slot of an inode, by a search, and how the loop over the slots shows that they are good. Assumes nothing.
use Rattle.std.proofs.Math.Path.{◌≡◌, refl, sym}
use Rattle.std.proofs.Common.{ap, ◌∙◌, inl, inr, ⊎_elim}
use Rattle.std.specs.Prelude.{Bool, List, ℕ, ◌+◌, ◌≤◌, ◌<◌}
use Rattle.std.proofs.Math.Bool.{true, false, cond}
use Rattle.std.specs.Int.Bits.{bit_or, or_add_and}
use Rattle.std.proofs.lemmas.Nat.{and_le_l, and_le_r}
use native.Mathlib.Omega.{arith}
use Rattle.std.proofs.Math.Decide.{ℕ_discrete}
use Rattle.std.proofs.Math.ListN.{get_or}
use Rattle.std.proofs.Math.Dec.{eqb}
use borrow.Author.Tests.{eq-eqb, ne_eqb, eqb-true, eqb-false}
use Rattle.base.specs.First.{first, first-none, first_before}
use Rattle.base.specs.Decide.{Decides, alike, lt_or_le}
use Rattle.state.specs.Whole.{GoodSlots}

-- slot k is in use for inode i
unfoldable pub uses : List ℕ → List ℕ → ℕ → ℕ → Bool
uses inums refs i k = cond (eqb (get_or refs k 0) 0) false (eqb (get_or inums k 0) i)

-- the first slot below n that is in use for inode i, n where none is
unfoldable pub slot_of : List ℕ → List ℕ → ℕ → ℕ → ℕ
slot_of inums refs i n = first (uses inums refs i) n

module _ (inums refs : List ℕ) (i k : ℕ) where
  pub slot-other : (get_or refs k 0 ≡ 0 → ⊥) → (get_or inums k 0 ≡ i → ⊥) → uses inums refs i k ≡ false
  unfolding uses
  slot-other h e = rw (ne_eqb _ _ h, ne_eqb _ _ e)

  pub slot_free : get_or refs k 0 ≡ 0 → uses inums refs i k ≡ false
  unfolding uses
  slot_free h = rw (eq-eqb _ _ h)

  pub slot-found : (get_or refs k 0 ≡ 0 → ⊥) → get_or inums k 0 ≡ i → uses inums refs i k ≡ true
  unfolding uses
  slot-found h e = rw (ne_eqb _ _ h, eq-eqb _ _ e)

  pub slot_is : uses inums refs i k ≡ true → (0 < get_or refs k 0) × (get_or inums k 0 ≡ i)
  unfolding uses
  slot_is h = go (eqb (get_or refs k 0) 0) refl h
    where
      go : (s : Bool) → eqb (get_or refs k 0) 0 ≡ s → cond s false (eqb (get_or inums k 0) i) ≡ true → (0 < get_or refs k 0) × (get_or inums k 0 ≡ i)
      go true e m = absurd (let z : ◌≡◌ {A = ℕ} 0 1 = cc in omega arith)
      go false e m = (omega (arith, eqb-false (get_or refs k 0) 0 e), eqb-true _ _ m)

-- slot k, in use, is good, and no slot before it is in use for its inode
pub record GoodSlot (inums refs : List ℕ) (ninodes k : ℕ) : Type 0 where
  pub low : 1 ≤ get_or inums k 0
  pub high : get_or inums k 0 < ninodes
  pub count : get_or refs k 0 ≤ 1000
  pub new : slot_of inums refs (get_or inums k 0) k ≡ k

-- every slot in use below n
abbrev pub GoodBelow : List ℕ → List ℕ → ℕ → ℕ → Type 0
GoodBelow inums refs ninodes n = (k : ℕ) → k < n → (get_or refs k 0 ≡ 0 → ⊥) → GoodSlot inums refs ninodes k

module _ (inums refs : List ℕ) (ninodes : ℕ) where
  before : (g : GoodBelow inums refs ninodes 50) → (j k : ℕ) → j < k → k < 50 → 0 < get_or refs j 0 → 0 < get_or refs k 0 → get_or inums j 0 ≡ get_or inums k 0 → ⊥
  unfolding slot_of
  before g j k l m p q e =
      let s = (g k m (omega arith)).new in
      let z : true ≡ false = sym (slot-found inums refs (get_or inums k 0) j (omega arith) e) ∙ first_before (uses inums refs (get_or inums k 0)) k j (omega arith) in
      let w : ◌≡◌ {A = ℕ} 0 1 = cc in
      omega arith

  pub slots_good : GoodBelow inums refs ninodes 50 → GoodSlots inums refs ninodes
  slots_good g = record {
    low = λ k h u. (g k h (omega arith)).low;
    high = λ k h u. (g k h (omega arith)).high;
    count = λ k h u. (g k h (omega arith)).count;
    distinct = λ j k hj hk uj uk e. elim (ℕ_discrete j k) [
      | yes z ↦ z
      | no z ↦ absurd (⊎_elim (λ l. before g j k l hk uj uk e) (λ l. before g k j (omega arith) hj uk uj (sym e)) (lt_or_le j k))
    ];
  }

  pub slots-each : GoodSlots inums refs ninodes → (k : ℕ) → k < 50 → (get_or refs k 0 ≡ 0 → ⊥) → GoodSlot inums refs ninodes k
  unfolding slot_of
  slots-each g k h u = record {
    low = g.low k h (omega arith);
    high = g.high k h (omega arith);
    count = g.count k h (omega arith);
    new = first-none (uses inums refs (get_or inums k 0)) k (λ j l. elim (ℕ_discrete (get_or refs j 0) 0) [
      | yes z ↦ slot_free inums refs (get_or inums k 0) j z
      | no z ↦ slot-other inums refs (get_or inums k 0) j z (λ e. omega (arith, g.distinct j k (omega arith) h (omega arith) (omega arith) e))
    ]);
  }

-- a test that says yes only where no slot from the fourth on is in use
pub record LaterFree (r : Bool) (refs : List ℕ) : Type 0 where
  pub free : r ≡ true → (k : ℕ) → 4 ≤ k → k < 50 → get_or refs k 0 ≡ 0

-- so far: where the bits together are 0, so is each count from the fourth to b
pub record Together (refs : List ℕ) (b any : ℕ) : Type 0 where
  pub each : any ≡ 0 → (k : ℕ) → 4 ≤ k → k < b → get_or refs k 0 ≡ 0

or-none : (a b : ℕ) → bit_or a b ≡ 0 → (a ≡ 0) × (b ≡ 0)
or-none a b e = let s = or_add_and a b in let l = and_le_l a b in let r = and_le_r a b in (omega arith, omega arith)

pub together_none : (refs : List ℕ) → Together refs 4 0
together_none refs = record { each = λ _ k l h. absurd (omega arith) }

pub together_more : (refs : List ℕ) (b any : ℕ) → Together refs b any → Together refs (b + 1) (bit_or any (get_or refs b 0))
together_more refs b any g = record { each = each }
  where
    each : bit_or any (get_or refs b 0) ≡ 0 → (k : ℕ) → 4 ≤ k → k < b + 1 → get_or refs k 0 ≡ 0
    each e k l h = elim (ℕ_discrete k b) [
      | yes u ↦ ap (λ (i : ℕ). get_or refs i 0) u ∙ (or-none any (get_or refs b 0) e).1
      | no u ↦ g.each (or-none any (get_or refs b 0) e).0 k l (omega arith)
    ]

pub together_end : (refs : List ℕ) (b any : ℕ) → Together refs b any → 50 ≤ b → LaterFree (eqb any 0) refs
together_end refs b any g h = record { free = λ e k l m. g.each (eqb-true any 0 e) k l (omega arith) }

-- the first four are all, where no later one is in use
pub slots_few : (inums refs : List ℕ) (ninodes : ℕ) {r : Bool} → ((k : ℕ) → 4 ≤ k → k < 50 → get_or refs k 0 ≡ 0) → Decides r (GoodBelow inums refs ninodes 4) → Decides r (GoodSlots inums refs ninodes)
slots_few inums refs ninodes free = alike
    (λ g. slots_good inums refs ninodes (λ k h u. elim (lt_or_le k 4) [
      | inl l ↦ g k l u
      | inr l ↦ absurd (u (free k l h))
    ]))
    (λ g k h u. slots-each inums refs ninodes g k (omega arith) u)

pub slots-all : (inums refs : List ℕ) (ninodes : ℕ) {r : Bool} → Decides r (GoodBelow inums refs ninodes 50) → Decides r (GoodSlots inums refs ninodes)
slots-all inums refs ninodes = alike (slots_good inums refs ninodes) (λ g k h u. slots-each inums refs ninodes g k h u)
