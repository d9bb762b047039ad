-- How three passes decide that the homes and the buffers are good: one over the buffers leaves, for each remainder of a block's number by 256, the
-- last buffer whose block has it, and searches only where a remainder comes again; one over the homes finds each in its buffer, and marks that
-- buffer; one compares the counts with the marks. Assumes nothing.
use Rattle.std.specs.Prelude.{◌≡◌, refl, Bool, true, false, cond, List, ℕ, ◌+◌, ◌%◌, ◌≤◌, ◌<◌, get_or, length, set, replicate, eqb, nat_eq}
use Rattle.std.proofs.Common.{sym, ap, ◌∙◌, arith, get_or-set_same, get_or-set_other, lt-ltb, le-ltb, eqb-true}
use Rattle.std.proofs.Math.Decide.{ℕ_discrete, dec_lt}
use Rattle.std.proofs.lemmas.List.{ext_get_or, length-replicate, get_or-replicate}
use Rattle.std.proofs.Math.ListN.{get_or-eq_default}
use Rattle.std.specs.Cmp.Lexicographic.{pointwise, same_text, other_text}
use Rattle.base.specs.First.{first, first_holds}
use Rattle.base.specs.Bytes.{Bytes, bytes}
use Rattle.base.specs.Decide.{Decides}
use Rattle.bio.specs.Among.{among, among_where, among_yes, among_no, among_none, Distinct, distinct_none, distinct_high, distinct_new, distinct_not}
use Rattle.state.specs.Whole.{GoodHomes, Buffered, Pinned}

-- ---- the first pass

-- the first n buffers have distinct blocks, and each remainder of these has a mark
pub record Placed (m : Bytes) (blocks : List ℕ) (n size : ℕ) : Type 0 where
  pub once : Distinct blocks n size
  pub some : (j : ℕ) → j < n → get_or blocks j 0 < size → m (get_or blocks j 0 % 256) ≡ 0 → ⊥
  pub small : (x : ℕ) → m x ≤ 30

-- what it gives
pub record Places (ok : Bool) (m : Bytes) (blocks : List ℕ) (size : ℕ) : Type 0 where
  pub tests : Decides ok (Distinct blocks 30 size)
  pub small : ok ≡ true → (x : ℕ) → m x ≤ 30

pub placed_none : (m : Bytes) (blocks : List ℕ) (size : ℕ) → ((x : ℕ) → m x ≡ 0) → Placed m blocks 0 size
placed_none m blocks size z = record { once = distinct_none blocks size 0; some = λ j l. absurd (omega arith); small = λ x. omega (arith, z x) }

module _ (blocks : List ℕ) (j b f : ℕ) (e : f ≡ first (λ k. eqb (get_or blocks k 0) b) j) where
  pub found_yes : f < j → among blocks j b ≡ true
  unfolding among
  found_yes h = rw (← e) (lt-ltb f j h)

  pub found_no : j ≤ f → among blocks j b ≡ false
  unfolding among
  found_no h = rw (← e) (le-ltb f j h)

module _ (places blocks : List ℕ) (j size : ℕ) (p : Placed (bytes places) blocks j size) where
  pub placed_high : size ≤ get_or blocks j 0 → Placed (bytes places) blocks (j + 1) size
  placed_high h = record {
    once = distinct_high blocks size j p.once h;
    some = λ k l b z. elim (ℕ_discrete k j) [
      | yes y ↦ let x : get_or blocks k 0 ≡ get_or blocks j 0 = ap (λ (i : ℕ). get_or blocks i 0) y in omega arith
      | no y ↦ p.some k (omega arith) b z
    ];
    small = p.small;
  }

  -- a remainder without a mark: the block is new
  pub placed_new : get_or blocks j 0 < size → get_or places (get_or blocks j 0 % 256) 0 ≡ 0 → among blocks j (get_or blocks j 0) ≡ false
  placed_new h z = among_none blocks j (get_or blocks j 0) (λ i l e. p.some i l (rw e h) (ap (λ (x : ℕ). get_or places (x % 256) 0) e ∙ z))

  pub placed_more : length places ≡ 256 → j < 30 → get_or blocks j 0 < size → among blocks j (get_or blocks j 0) ≡ false
      → Placed (bytes (set places (get_or blocks j 0 % 256) (j + 1))) blocks (j + 1) size
  placed_more long l h n = record {
    once = distinct_new blocks size j p.once n;
    some = λ k q b z. elim (ℕ_discrete (get_or blocks k 0 % 256) (get_or blocks j 0 % 256)) [
      | yes y ↦ omega (arith, sym (ap (λ (x : ℕ). get_or (set places (get_or blocks j 0 % 256) (j + 1)) x 0) y) ∙ z, here)
      | no y ↦ elim (ℕ_discrete k j) [
        | yes x ↦ y (ap (λ (i : ℕ). get_or blocks i 0 % 256) x)
        | no x ↦ p.some k (omega arith) b (sym (get_or-set_other places (get_or blocks j 0 % 256) (get_or blocks k 0 % 256) (j + 1) 0 y) ∙ z)
      ]
    ];
    small = λ x. elim (ℕ_discrete x (get_or blocks j 0 % 256)) [
      | yes y ↦ omega (arith, ap (λ (i : ℕ). get_or (set places (get_or blocks j 0 % 256) (j + 1)) i 0) y, here)
      | no y ↦ omega (arith, get_or-set_other places (get_or blocks j 0 % 256) x (j + 1) 0 y, p.small x)
    ];
  }
    where
      here : get_or (set places (get_or blocks j 0 % 256) (j + 1)) (get_or blocks j 0 % 256) 0 ≡ j + 1
      here = get_or-set_same places (get_or blocks j 0 % 256) (j + 1) 0 (omega arith)

-- ---- the buffer of a block

-- r is a buffer that has block b, or 30 where none has
pub record Holder (blocks : List ℕ) (b r : ℕ) : Type 0 where
  pub has : r < 30 → get_or blocks r 0 ≡ b
  pub none : 30 ≤ r → (j : ℕ) → j < 30 → get_or blocks j 0 ≡ b → ⊥

pub holder_here : (blocks : List ℕ) (b r : ℕ) → r < 30 → get_or blocks r 0 ≡ b → Holder blocks b r
holder_here blocks b r h e = record { has = λ _. e; none = λ l. absurd (omega arith) }

pub holder_found : (blocks : List ℕ) (b r : ℕ) → r ≡ first (λ k. eqb (get_or blocks k 0) b) 30 → Holder blocks b r
holder_found blocks b r e = record {
  has = λ h. eqb-true (get_or blocks r 0) b (rw (← e) at (first_holds (λ k. eqb (get_or blocks k 0) b) 30 (rw e at h)));
  none = λ h. among_no blocks 30 b (found_no blocks 30 b r e h);
}

-- ---- the second pass

-- the first n homes are good, and each is in a buffer with count 1
pub record Found (blocks counts homes : List ℕ) (n low size : ℕ) : Type 0 where
  pub list : GoodHomes homes n low size
  pub pinned : (i : ℕ) → i < n → Pinned blocks counts (get_or homes i 0)

-- the buffers that hold one of the first n homes have the mark 1, the others 0
abbrev pub Marked : Bytes → List ℕ → List ℕ → ℕ → Type 0
Marked m blocks homes n = (j : ℕ) → j < 30 → m j ≡ cond (among homes n (get_or blocks j 0)) 1 0

-- what it gives
pub record Met (ok : Bool) (m : Bytes) (blocks counts homes : List ℕ) (n low size : ℕ) : Type 0 where
  pub tests : Decides ok (Found blocks counts homes n low size)
  pub marked : ok ≡ true → Marked m blocks homes n

pub found_none : (blocks counts homes : List ℕ) (low size : ℕ) → Found blocks counts homes 0 low size
found_none blocks counts homes low size = record {
  list = record { low = λ i l. absurd (omega arith); high = λ i l. absurd (omega arith); distinct = distinct_none homes size 0 };
  pinned = λ i l. absurd (omega arith);
}

pub marked-none : (m : Bytes) (blocks homes : List ℕ) → ((x : ℕ) → m x ≡ 0) → Marked m blocks homes 0
marked-none m blocks homes z j l = rw (among_none homes 0 (get_or blocks j 0) (λ i h e. omega arith)) (z j)

module _ (marks blocks counts homes : List ℕ) (i low size k : ℕ) (m : Marked (bytes marks) blocks homes i) (o : Distinct blocks 30 size)
    (s : get_or homes i 0 < size) (h : Holder blocks (get_or homes i 0) k) (l : k < 30) where
  -- a buffer without a mark: the home is new
  new : get_or marks k 0 ≡ 0 → among homes i (get_or homes i 0) ≡ false
  new z = go (among homes i (get_or homes i 0)) refl
    where
      go : (t : Bool) → among homes i (get_or homes i 0) ≡ t → t ≡ false
      go true e = absurd (omega (arith, z, m k l ∙ ap (λ (x : ℕ). cond {A = ℕ} (among homes i x) 1 0) (h.has l) ∙ ap (λ (t : Bool). cond t 1 0) e))
      go false e = refl

  pub found_more : Found blocks counts homes i low size → low ≤ get_or homes i 0 → get_or counts k 0 ≡ 1 → get_or marks k 0 ≡ 0 → Found blocks counts homes (i + 1) low size
  found_more f b c z = record {
    list = record {
      low = λ j q. elim (ℕ_discrete j i) [ yes y ↦ rw y b | no y ↦ f.list.low j (omega arith) ];
      high = λ j q. elim (ℕ_discrete j i) [ yes y ↦ rw y s | no y ↦ f.list.high j (omega arith) ];
      distinct = distinct_new homes size i f.list.distinct (new z);
    };
    pinned = λ j q. elim (ℕ_discrete j i) [
      | yes y ↦ rw y (record { at = k; below = l; block = h.has l; count = c })
      | no y ↦ f.pinned j (omega arith)
    ];
  }

  pub marked_more : length marks ≡ 30 → Marked (bytes (set marks k 1)) blocks homes (i + 1)
  marked_more long j q = elim (ℕ_discrete j k) [
    | yes z ↦ rw (z, h.has l, among_yes homes (i + 1) (get_or homes i 0) i (omega arith) refl) (get_or-set_same marks k 1 0 (omega arith))
    | no z ↦ get_or-set_other marks k j 1 0 z ∙ m j q ∙ ap (λ (t : Bool). cond t 1 0) (same (λ e. z (o.same j k q l (omega arith) (e ∙ sym (h.has l)))))
  ]
    where
      same : (get_or blocks j 0 ≡ get_or homes i 0 → ⊥) → among homes i (get_or blocks j 0) ≡ among homes (i + 1) (get_or blocks j 0)
      same z = go (among homes i (get_or blocks j 0)) refl
        where
          go : (t : Bool) → among homes i (get_or blocks j 0) ≡ t → among homes i (get_or blocks j 0) ≡ among homes (i + 1) (get_or blocks j 0)
          go true e = let w = among_where homes i (get_or blocks j 0) e in e ∙ sym (among_yes homes (i + 1) (get_or blocks j 0) w.0 (omega (arith, w.1)) w.2)
          go false e = e ∙ sym (among_none homes (i + 1) (get_or blocks j 0) (λ a b y. elim (ℕ_discrete a i) [
            | yes x ↦ z (sym y ∙ ap (λ (c : ℕ). get_or homes c 0) x)
            | no x ↦ among_no homes i (get_or blocks j 0) e a (omega arith) y
          ]))

  -- a count that is not 1, or a mark
  pub not_pinned : (n : ℕ) → i < n → (get_or counts k 0 ≡ 1 → ⊥) → Found blocks counts homes n low size → ⊥
  not_pinned n q c f =
      let p = f.pinned i q in
      let z : p.at ≡ k = o.same p.at k p.below l (omega (arith, p.block)) (p.block ∙ sym (h.has l)) in
      c (rw z at p.count)

  pub met_twice : (n : ℕ) → i < n → (get_or marks k 0 ≡ 0 → ⊥) → Found blocks counts homes n low size → ⊥
  met_twice n q c f = go (among homes i (get_or homes i 0)) refl
    where
      go : (t : Bool) → among homes i (get_or homes i 0) ≡ t → ⊥
      go true e = distinct_not homes size i n q s e f.list.distinct
      go false e = c (m k l ∙ ap (λ (x : ℕ). cond {A = ℕ} (among homes i x) 1 0) (h.has l) ∙ ap (λ (t : Bool). cond t 1 0) e)

-- a home in no buffer
pub not_held : (blocks counts homes : List ℕ) (i low size k n : ℕ) → Holder blocks (get_or homes i 0) k → 30 ≤ k → i < n → Found blocks counts homes n low size → ⊥
not_held blocks counts homes i low size k n h l q f = let p = f.pinned i q in h.none l p.at p.below p.block

-- ---- the third pass, and all three

-- the counts are the marks
pub record Agree (m : Bytes) (counts : List ℕ) : Type 0 where
  pub each : (j : ℕ) → j < 30 → get_or counts j 0 ≡ m j

pub agreed : (marks counts : List ℕ) (r : Bool) → r ≡ pointwise nat_eq marks counts → length marks ≡ 30 → length counts ≡ 30 → Decides r (Agree (bytes marks) counts)
agreed marks counts r e l m = record {
  true_is = λ t. record { each = λ j h. ap (λ (xs : List ℕ). get_or xs j 0) (sym (same_text marks counts (sym t ∙ e))) };
  false_is = λ f a. other_text marks counts (sym f ∙ e) (ext_get_or 0 marks counts (l ∙ sym m) (λ j h. sym (a.each j (omega arith))));
}

module _ (blocks counts homes : List ℕ) (n low size : ℕ) where
  -- a home's buffer has count 1, any other 0
  pub count_is : Buffered blocks counts homes n low size → (j : ℕ) → j < 30 → get_or counts j 0 ≡ cond (among homes n (get_or blocks j 0)) 1 0
  count_is g j l = go (among homes n (get_or blocks j 0)) refl
    where
      -- the buffer of a home is the only one with that block
      only : among homes n (get_or blocks j 0) ≡ true → get_or counts j 0 ≡ 1
      only e =
          let w = among_where homes n (get_or blocks j 0) e in
          let p = g.buffers.held w.0 w.1 in
          let z : p.at ≡ j = g.buffers.once.same p.at j p.below l (omega (arith, p.block, g.list.high w.0 w.1)) (p.block ∙ w.2) in
          rw z at p.count

      go : (t : Bool) → among homes n (get_or blocks j 0) ≡ t → get_or counts j 0 ≡ cond t 1 0
      go true e = only e
      go false e = g.buffers.others j l e

  module _ (m : Bytes) (k : Marked m blocks homes n) where
    pub is_agreed : Buffered blocks counts homes n low size → Agree m counts
    is_agreed g = record { each = λ j l. count_is g j l ∙ sym (k j l) }

    pub is_buffered : Distinct blocks 30 size → Found blocks counts homes n low size → Agree m counts → Buffered blocks counts homes n low size
    is_buffered o f a = record {
      list = f.list;
      buffers = record {
        held = f.pinned;
        others = λ j l e. a.each j l ∙ k j l ∙ ap (λ (t : Bool). cond t 1 0) e;
        once = o;
      };
    }

-- ---- nothing marked yet

pub zeros : (n x : ℕ) → bytes (replicate n 0) x ≡ 0
zeros n x = elim (dec_lt x n) [
  | yes h ↦ get_or-replicate {A = ℕ} n x 0 0 h
  | no h ↦ get_or-eq_default {A = ℕ} (replicate n 0) 0 {n = x} (omega (arith, length-replicate {A = ℕ} n 0))
]

pub zeros-long : (n : ℕ) → length (replicate {A = ℕ} n 0) ≡ n
zeros-long n = length-replicate {A = ℕ} n 0
