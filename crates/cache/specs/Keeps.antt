-- A table that was well-formed is well-formed after every call, served or refused. Assumes nothing.
use Rattle.std.specs.Prelude.{◌≡◌, ◌≢◌, ◌⊎◌, List, ℕ, ◌+◌, ◌-◌, ◌*◌, ◌≤◌, ◌<◌, get_or, length, set, eqb}
use Rattle.std.proofs.Common.{sym, ap, ◌∙◌, inl, inr, arith, length-set, get_or-set_same, get_or-set_other, eqb-true}
use Rattle.std.proofs.Math.Decide.{ℕ_discrete, dec_lt, dec_le}
use Rattle.std.proofs.lemmas.Bool.{eqb-false}
use Rattle.base.specs.First.{first_before, first_holds}
use Rattle.base.specs.declared.Refusal.{Refusal}
use Rattle.bio.specs.Fresh.{none}
use Rattle.bio.specs.Order.{front, front_length, front-named, named-place, least_recent, least_free, least_some}
use Rattle.bio.specs.declared.Table.{Table}
use Rattle.cache.specs.Tables.{WellFormed, Bounded, buffer_with, chosen, chosen_own, chosen_new, with_count, holding, released, released_last, released_more}
use Rattle.cache.specs.Calls.{Left, Inside, Got, GetGives, ReleaseGives, PinGives, UnpinGives, refused}
use Rattle.cache.specs.declared.After.{After}

-- ---- the next tables are well-formed

module _ (t : Table) (w : WellFormed t) (k : ℕ) (low : k < 30) where
  pub count-here : (n : ℕ) → get_or (set t.counts k n) k 0 ≡ n
  count-here n = get_or-set_same t.counts k n 0 (omega (arith, w.sized.counts))

  pub count-other : (n j : ℕ) → j ≢ k → get_or (set t.counts k n) j 0 ≡ get_or t.counts j 0
  count-other n j z = get_or-set_other t.counts k j n 0 z

  pub block_here : (b : ℕ) → get_or (set t.blocks k b) k 0 ≡ b
  block_here b = get_or-set_same t.blocks k b 0 (omega (arith, w.sized.blocks))

  pub block-other : (b j : ℕ) → j ≢ k → get_or (set t.blocks k b) j 0 ≡ get_or t.blocks j 0
  block-other b j z = get_or-set_other t.blocks k j b 0 z

  bounded_set : (n : ℕ) → n ≤ 1000 → Bounded (set t.counts k n)
  bounded_set n h = record {
    each = λ j l. elim (ℕ_discrete j k) [
      | yes z ↦ omega (arith, ap (λ (x : ℕ). get_or (set t.counts k n) x 0) z, count-here n)
      | no z ↦ omega (arith, count-other n j z, w.counts.each j l)
    ];
  }

  count_well : (n : ℕ) → n ≤ 1000 → WellFormed (with_count t k n)
  count_well n h = record {
    order = w.order;
    once = w.once;
    counts = bounded_set n h;
    sized = record { blocks = w.sized.blocks; counts = length-set t.counts k n ∙ w.sized.counts; order = w.sized.order };
  }

  front_well : WellFormed (record { blocks = t.blocks; counts = set t.counts k 0; order = front k t.order })
  front_well =
      let p = named-place t.order k w.order low in
      record {
        order = front-named k t.order w.sized.order p w.order;
        once = w.once;
        counts = bounded_set 0 (omega arith);
        sized = record { blocks = w.sized.blocks; counts = length-set t.counts k 0 ∙ w.sized.counts; order = front_length k t.order w.sized.order p };
      }

  holding_well : (b : ℕ) → get_or t.counts k 0 < 1000 → ((j : ℕ) → j < 30 → get_or t.blocks j 0 ≡ b → j ≡ k) → WellFormed (holding t k b)
  holding_well b h only = record {
    order = w.order;
    once = record {
      same = λ i j l m x e. elim (ℕ_discrete i k) [
        | yes z ↦ elim (ℕ_discrete j k) [
          | yes y ↦ omega arith
          | no y ↦ absurd (y (only j m (sym (block-other b j y) ∙ sym e ∙ ap (λ (x : ℕ). get_or (set t.blocks k b) x 0) z ∙ block_here b)))
        ]
        | no z ↦ elim (ℕ_discrete j k) [
          | yes y ↦ absurd (z (only i l (sym (block-other b i z) ∙ e ∙ ap (λ (x : ℕ). get_or (set t.blocks k b) x 0) y ∙ block_here b)))
          | no y ↦ w.once.same i j l m (omega (arith, block-other b i z)) (sym (block-other b i z) ∙ e ∙ block-other b j y)
        ]
      ];
    };
    counts = bounded_set (get_or t.counts k 0 + 1) (omega arith);
    sized = record {
      blocks = length-set t.blocks k b ∙ w.sized.blocks;
      counts = length-set t.counts k (get_or t.counts k 0 + 1) ∙ w.sized.counts;
      order = w.sized.order;
    };
  }

-- ---- a get that is served

-- buffer k is the one for block b: it has room, and no other has the block
pub record Served (t : Table) (memory image : List ℕ) (b : ℕ) (l : Left) : Type 0 where
  pub well : WellFormed t
  pub inside : Inside b image
  pub below : chosen t b < 30
  pub room : get_or t.counts (chosen t b) 0 < 1000
  pub only : (j : ℕ) → j < 30 → get_or t.blocks j 0 ≡ b → j ≡ chosen t b
  pub got : Got t memory image b l

-- a get refuses, with everything as it was, or serves
pub get-cases : (t : Table) (memory image : List ℕ) (b : ℕ) (l : Left) → WellFormed t → GetGives t memory image b l
    → ((n : Refusal) × (l ≡ (refused t n, memory))) ⊎ Served t memory image b l
get-cases t memory image b l w (inl g) = absurd (g.0 w)
get-cases t memory image b l w (inr (h1, inl g)) = inl (_, g.1)
get-cases t memory image b l w (inr (h1, inr (h2, inl g))) = inl (_, g.1)
get-cases t memory image b l w (inr (h1, inr (h2, inr (h3, inl g)))) = inl (_, g.1)
get-cases t memory image b l w (inr (h1, inr (h2, inr (h3, inr (h4, inl g))))) = inl (_, g.1)
get-cases t memory image b l w (inr (h1, inr (h2, inr (h3, inr (h4, inr (h5, g)))))) = inr (go (dec_lt (buffer_with t b) 30))
  where
    inside : Inside b image
    inside = elim (dec_lt b none) [
      | yes p ↦ elim (dec_le (b * 1024 + 1024) (length image)) [
        | yes q ↦ record { real = p; whole = q }
        | no q ↦ absurd (h3 (λ i. q i.whole))
      ]
      | no p ↦ absurd (h3 (λ i. p i.real))
    ]

    own : buffer_with t b < 30 → get_or t.blocks (buffer_with t b) 0 ≡ b
    own p = eqb-true _ _ (first_holds (λ j. eqb (get_or t.blocks j 0) b) 30 p)

    free : 30 ≤ buffer_with t b → least_recent t.order t.counts < 30
    free p = elim (dec_lt (least_recent t.order t.counts) 30) [
      | yes q ↦ q
      | no q ↦ absurd (h5 (p, λ j m z. q (least_some t.order t.counts w.order j m z)))
    ]

    go : Dec (buffer_with t b < 30) → Served t memory image b l
    go (yes p) =
        let e = chosen_own t b p in
        record {
          well = w;
          inside = inside;
          below = rw e p;
          room = rw e (let not : get_or t.counts (buffer_with t b) 0 ≢ 1000 = λ z. h4 (p, z) in omega (arith, w.counts.each (buffer_with t b) p));
          only = λ j m z. rw e (w.once.same j (buffer_with t b) m p (omega (arith, inside.real)) (z ∙ sym (own p)));
          got = g;
        }
    go (no p) =
        let e = chosen_new t b (omega arith) in
        let f = free (omega arith) in
        record {
          well = w;
          inside = inside;
          below = rw e f;
          room = rw e (omega (arith, least_free t.order t.counts f));
          only = λ j m z. absurd (eqb-false _ _ (first_before (λ i. eqb (get_or t.blocks i 0) b) 30 j (omega arith)) z);
          got = g;
        }

-- ---- a well-formed table stays so

pub refused_table : (t : Table) (memory : List ℕ) (l : Left) → ((n : Refusal) × (l ≡ (refused t n, memory))) → l.0.table ≡ t
refused_table t memory l r = ap (λ (x : Left). x.0.table) r.1

pub get_well : (t : Table) (memory image : List ℕ) (b : ℕ) (l : Left) → WellFormed t → GetGives t memory image b l → WellFormed l.0.table
get_well t memory image b l w g = go (get-cases t memory image b l w g)
  where
    go : ((n : Refusal) × (l ≡ (refused t n, memory))) ⊎ Served t memory image b l → WellFormed l.0.table
    go (inl r) = rw (refused_table t memory l r) w
    go (inr s) = rw s.got.table (holding_well t w (chosen t b) s.below b s.room s.only)

pub release_well : (t : Table) (j : ℕ) (a : After Unit) → WellFormed t → ReleaseGives t j a → WellFormed a.table
release_well t j a w (inl g) = absurd (g.0 w)
release_well t j a w (inr (h1, inl g)) = rw g.1 w
release_well t j a w (inr (h1, inr (h2, inl g))) = rw g.1 w
release_well t j a w (inr (h1, inr (h2, inr (h3, g)))) = rw g.is (go (ℕ_discrete (get_or t.counts j 0) 1))
  where
    low : j < 30
    low = omega (arith, h2)

    go : Dec (get_or t.counts j 0 ≡ 1) → WellFormed (released t j)
    go (yes e) = rw (released_last t j e) (front_well t w j low)
    go (no e) = rw (released_more t j e) (count_well t w j low (get_or t.counts j 0 - 1) (omega (arith, w.counts.each j low)))

pub pin_well : (t : Table) (j : ℕ) (a : After Unit) → WellFormed t → PinGives t j a → WellFormed a.table
pin_well t j a w (inl g) = absurd (g.0 w)
pin_well t j a w (inr (h1, inl g)) = rw g.1 w
pin_well t j a w (inr (h1, inr (h2, inl g))) = rw g.1 w
pin_well t j a w (inr (h1, inr (h2, inr (h3, inl g)))) = rw g.1 w
pin_well t j a w (inr (h1, inr (h2, inr (h3, inr (h4, g))))) =
    let low : j < 30 = omega (arith, h2) in
    rw g.is (count_well t w j low (get_or t.counts j 0 + 1) (omega (arith, w.counts.each j low, h4)))

pub unpin_well : (t : Table) (j : ℕ) (a : After Unit) → WellFormed t → UnpinGives t j a → WellFormed a.table
unpin_well t j a w (inl g) = absurd (g.0 w)
unpin_well t j a w (inr (h1, inl g)) = rw g.1 w
unpin_well t j a w (inr (h1, inr (h2, inl g))) = rw g.1 w
unpin_well t j a w (inr (h1, inr (h2, inr (h3, g)))) =
    let low : j < 30 = omega (arith, h2) in
    rw g.is (count_well t w j low (get_or t.counts j 0 - 1) (omega (arith, w.counts.each j low)))
