-- One block recorded: the state stays whole, and what is seen does not change. Assumes nothing.
use Rattle.std.specs.Prelude.{◌≡◌, refl, Bool, true, false, List, ℕ, ◌+◌, ◌≤◌, ◌<◌, min, get_or, eqb}
use Rattle.std.proofs.Common.{sym, ap, ◌∙◌, arith, length-set, get_or-set_same, get_or-set_other, eqb-true, ltb-true}
use Rattle.std.proofs.Math.Decide.{ℕ_discrete, dec_lt}
use Rattle.std.proofs.lemmas.Bool.{eqb-false}
use Rattle.base.specs.First.{first, first_holds, first_before}
use Rattle.base.specs.Bytes.{Bytes}
use Rattle.base.specs.Update.{upd_set}
use Rattle.base.specs.Pigeon.{pigeon}
use Rattle.bio.specs.Among.{among, among_where, among_yes, among_no, among_none}
use Rattle.bio.specs.Seen.{seen}
use Rattle.bio.specs.Order.{least_recent, least_free, least_some}
use Rattle.bio.specs.Take.{Taken, seen-taken}
use Rattle.bio.specs.declared.Table.{Table}
use Rattle.cache.specs.Tables.{chosen, chosen_own, chosen_new, buffer_with}
use Rattle.state.specs.declared.Volume.{Volume}
use Rattle.state.specs.Whole.{Whole, Buffered, GoodHomes, GoodBuffers}
use Rattle.state.specs.Given.{unrecorded_none}
use Rattle.recording.specs.Record.{is_recorded, with_block, with_bytes}

-- what is wanted of the buffer that is taken for block b
pub record Chosen (t : Table) (b k : ℕ) : Type 0 where
  pub below : k < 30
  pub free : get_or t.counts k 0 ≡ 0
  pub only : (j : ℕ) → j < 30 → get_or t.blocks j 0 ≡ b → j ≡ k

found : (l : List ℕ) (n b : ℕ) → among l n b ≡ true → first (λ k. eqb (get_or l k 0) b) n < n
unfolding among
found l n b h = ltb-true (first (λ k. eqb (get_or l k 0) b) n) n h

-- fewer homes than buffers: one has no references
module _ (blocks counts homes : List ℕ) (n low size : ℕ) (g : Buffered blocks counts homes n low size) (few : n < 30) where
  -- where buffer j's block is among the homes
  abbrev at : ℕ → ℕ
  at j = first (λ i. eqb (get_or homes i 0) (get_or blocks j 0)) n

  abbrev free : ℕ
  free = first (λ j. eqb (get_or counts j 0) 0) 30

  pub some_free : (j : ℕ) × (j < 30) × (get_or counts j 0 ≡ 0)
  some_free = elim (dec_lt free 30) [
    | yes p ↦ (free, p, eqb-true (get_or counts free 0) 0 (first_holds (λ j. eqb (get_or counts j 0) 0) 30 p))
    | no p ↦ absurd (none p)
  ]
    where
      none : (free < 30 → ⊥) → ⊥
      none p = let q : 30 ≤ n = pigeon n 30 at (λ j l. (is j l).0) apart in omega arith
        where
          home : (j : ℕ) → j < 30 → among homes n (get_or blocks j 0) ≡ true
          home j l = go (among homes n (get_or blocks j 0)) refl
            where
              go : (s : Bool) → among homes n (get_or blocks j 0) ≡ s → s ≡ true
              go true e = refl
              go false e = absurd (eqb-false (get_or counts j 0) 0 (first_before (λ i. eqb (get_or counts i 0) 0) 30 j (omega arith)) (g.buffers.others j l e))

          is : (j : ℕ) → j < 30 → (at j < n) × (get_or homes (at j) 0 ≡ get_or blocks j 0)
          is j l =
              let m : at j < n = found homes n (get_or blocks j 0) (home j l) in
              (m, eqb-true (get_or homes (at j) 0) (get_or blocks j 0) (first_holds (λ i. eqb (get_or homes i 0) (get_or blocks j 0)) n m))

          apart : (a b : ℕ) → a < 30 → b < 30 → at a ≡ at b → a ≡ b
          apart a b la lb e =
              g.buffers.once.same a b la lb (omega (arith, g.list.high (at a) (is a la).0, (is a la).1))
              (sym (is a la).1 ∙ ap (λ (i : ℕ). get_or homes i 0) e ∙ (is b lb).1)

-- block b of the card can be recorded in a whole volume
pub record Recordable (v : Volume) (b : ℕ) (image : List ℕ) : Type 0 where
  pub whole : Whole v image
  pub ops : v.ops ≡ 0 → ⊥
  pub low : v.sb.inodestart ≤ b
  pub high : b < v.sb.size
  pub new : is_recorded v b ≡ false
  pub room : v.recorded + 3 ≤ min 30 v.sb.nlog

module _ (v : Volume) (b : ℕ) (image : List ℕ) (g : Recordable v b image) where
  abbrev k : ℕ
  k = chosen v.table b

  abbrev w : Volume
  w = with_block v b

  few : v.recorded < 30
  few = omega (arith, g.room)

  pub chose : Chosen v.table b (chosen v.table b)
  chose = go (dec_lt (buffer_with v.table b) 30)
    where
      go : Dec (buffer_with v.table b < 30) → Chosen v.table b (chosen v.table b)
      go (yes p) =
          let e : get_or v.table.blocks (buffer_with v.table b) 0 ≡ b = eqb-true _ _ (first_holds (λ j. eqb (get_or v.table.blocks j 0) b) 30 p) in
          rw (chosen_own v.table b p) (record {
            below = p;
            free = g.whole.buffered.buffers.others (buffer_with v.table b) p (ap (among v.homes v.recorded) e ∙ g.new);
            only = λ j m z. g.whole.buffered.buffers.once.same j (buffer_with v.table b) m p (omega (arith, g.high)) (z ∙ sym e);
          })
      go (no p) =
          let s = some_free v.table.blocks v.table.counts v.homes v.recorded v.sb.inodestart v.sb.size g.whole.buffered few in
          let l : least_recent v.table.order v.table.counts < 30 = least_some v.table.order v.table.counts g.whole.order s.0 s.1 s.2 in
          rw (chosen_new v.table b (omega arith)) (record {
            below = l;
            free = least_free v.table.order v.table.counts l;
            only = λ j m z. absurd (eqb-false _ _ (first_before (λ i. eqb (get_or v.table.blocks i 0) b) 30 j (omega arith)) z);
          })

  -- the new lists
  pub home_new : get_or w.homes v.recorded 0 ≡ b
  home_new = get_or-set_same v.homes v.recorded b 0 (omega (arith, few, g.whole.lengths.homes))

  pub home_old : (i : ℕ) → i < v.recorded → get_or w.homes i 0 ≡ get_or v.homes i 0
  home_old i l = get_or-set_other v.homes v.recorded i b 0 (omega arith)

  block_new : get_or w.table.blocks k 0 ≡ b
  block_new = get_or-set_same v.table.blocks k b 0 (omega (arith, chose.below, g.whole.lengths.blocks))

  block_old : (j : ℕ) → (j ≡ k → ⊥) → get_or w.table.blocks j 0 ≡ get_or v.table.blocks j 0
  block_old j n = get_or-set_other v.table.blocks k j b 0 n

  count_new : get_or w.table.counts k 0 ≡ 1
  count_new = get_or-set_same v.table.counts k (get_or v.table.counts k 0 + 1) 0 (omega (arith, chose.below, g.whole.lengths.counts)) ∙ ap (λ (x : ℕ). x + 1) chose.free

  count_old : (j : ℕ) → (j ≡ k → ⊥) → get_or w.table.counts j 0 ≡ get_or v.table.counts j 0
  count_old j n = get_or-set_other v.table.counts k j (get_or v.table.counts k 0 + 1) 0 n

  -- among the homes there is b, and what there was
  pub among_new : among w.homes (v.recorded + 1) b ≡ true
  among_new = among_yes w.homes (v.recorded + 1) b v.recorded (omega arith) home_new

  pub among_old : (x : ℕ) → (x ≡ b → ⊥) → among w.homes (v.recorded + 1) x ≡ among v.homes v.recorded x
  among_old x n = go (among v.homes v.recorded x) refl
    where
      go : (s : Bool) → among v.homes v.recorded x ≡ s → among w.homes (v.recorded + 1) x ≡ s
      go true e =
          let p = among_where v.homes v.recorded x e in
          among_yes w.homes (v.recorded + 1) x p.0 (omega (arith, p.1)) (home_old p.0 p.1 ∙ p.2)
      go false e = among_none w.homes (v.recorded + 1) x (λ i l q. elim (ℕ_discrete i v.recorded) [
        | yes z ↦ n (sym q ∙ ap (λ (y : ℕ). get_or w.homes y 0) z ∙ home_new)
        | no z ↦ among_no v.homes v.recorded x e i (omega arith) (sym (home_old i (omega arith)) ∙ q)
      ])

  homes_kept : GoodHomes w.homes (v.recorded + 1) v.sb.inodestart v.sb.size
  homes_kept = record {
    low = λ i l. elim (ℕ_discrete i v.recorded) [
      | yes z ↦ omega (arith, ap (λ (x : ℕ). get_or w.homes x 0) z, home_new, g.low)
      | no z ↦ omega (arith, home_old i (omega arith), g.whole.buffered.list.low i (omega arith))
    ];
    high = λ i l. elim (ℕ_discrete i v.recorded) [
      | yes z ↦ omega (arith, ap (λ (x : ℕ). get_or w.homes x 0) z, home_new, g.high)
      | no z ↦ omega (arith, home_old i (omega arith), g.whole.buffered.list.high i (omega arith))
    ];
    distinct = record {
      same = λ i j l m x e. elim (ℕ_discrete i v.recorded) [
        | yes z ↦ elim (ℕ_discrete j v.recorded) [
          | yes y ↦ omega arith
          | no y ↦ absurd (among_no v.homes v.recorded b g.new j (omega arith) (sym (home_old j (omega arith)) ∙ sym e ∙ ap (λ (o : ℕ). get_or w.homes o 0) z ∙ home_new))
        ]
        | no z ↦ elim (ℕ_discrete j v.recorded) [
          | yes y ↦ absurd (among_no v.homes v.recorded b g.new i (omega arith) (sym (home_old i (omega arith)) ∙ e ∙ ap (λ (o : ℕ). get_or w.homes o 0) y ∙ home_new))
          | no y ↦ g.whole.buffered.list.distinct.same i j (omega arith) (omega arith) (omega (arith, home_old i (omega arith))) (sym (home_old i (omega arith)) ∙ e ∙ home_old j (omega arith))
        ]
      ];
    };
  }

  buffers_kept : GoodBuffers w.table.blocks w.table.counts w.homes (v.recorded + 1) v.sb.size
  buffers_kept = record {
    held = λ i l. elim (ℕ_discrete i v.recorded) [
      | yes z ↦ record { at = k; below = chose.below; block = block_new ∙ sym home_new ∙ ap (λ (x : ℕ). get_or w.homes x 0) (sym z); count = count_new }
      | no z ↦
          let m : i < v.recorded = omega arith in
          let p = g.whole.buffered.buffers.held i m in
          let q : p.at ≡ k → ⊥ = λ e. omega (arith, p.count, chose.free, ap (λ (x : ℕ). get_or v.table.counts x 0) e) in
          record { at = p.at; below = p.below; block = block_old p.at q ∙ p.block ∙ sym (home_old i m); count = count_old p.at q ∙ p.count }
    ];
    others = λ j l e. elim (ℕ_discrete j k) [
      | yes z ↦ absurd (among_no w.homes (v.recorded + 1) (get_or w.table.blocks j 0) e v.recorded (omega arith) (home_new ∙ sym block_new ∙ ap (λ (x : ℕ). get_or w.table.blocks x 0) (sym z)))
      | no z ↦
          let o = block_old j z in
          count_old j z ∙ g.whole.buffered.buffers.others j l (sym (among_old (get_or v.table.blocks j 0) (λ q. z (chose.only j l q))) ∙ ap (among w.homes (v.recorded + 1)) (sym o) ∙ e)
    ];
    once = record {
      same = λ i j l m x e. elim (ℕ_discrete i k) [
        | yes z ↦ elim (ℕ_discrete j k) [
          | yes y ↦ omega arith
          | no y ↦ absurd (y (chose.only j m (sym (block_old j y) ∙ sym e ∙ ap (λ (o : ℕ). get_or w.table.blocks o 0) z ∙ block_new)))
        ]
        | no z ↦ elim (ℕ_discrete j k) [
          | yes y ↦ absurd (z (chose.only i l (sym (block_old i z) ∙ e ∙ ap (λ (o : ℕ). get_or w.table.blocks o 0) y ∙ block_new)))
          | no y ↦ g.whole.buffered.buffers.once.same i j l m (omega (arith, block_old i z)) (sym (block_old i z) ∙ e ∙ block_old j y)
        ]
      ];
    };
  }

  pub whole_one : Whole (with_block v b) image
  whole_one = record {
    live = g.whole.live;
    card = g.whole.card;
    counts = record { ops = g.whole.counts.ops; room = omega (arith, g.room); idle = λ e. absurd (g.ops e) };
    buffered = record { list = homes_kept; buffers = buffers_kept };
    order = g.whole.order;
    slots = g.whole.slots;
    lengths = record {
      blocks = simp length-set g.whole.lengths.blocks;
      counts = simp length-set g.whole.lengths.counts;
      order = g.whole.lengths.order;
      homes = simp length-set g.whole.lengths.homes;
      inums = g.whole.lengths.inums;
      refs = g.whole.lengths.refs;
    };
  }

  taken : Taken v.table.blocks v.table.counts w.table.blocks w.table.counts k b (get_or v.table.counts k 0 + 1)
  taken = record {
    below = chose.below;
    free = chose.free;
    new = omega (arith, unrecorded_none v.table.blocks v.table.counts v.homes v.recorded v.sb.inodestart v.sb.size g.whole.buffered b g.new);
    some = omega arith;
    block_is = upd_set v.table.blocks k b (omega (arith, chose.below, g.whole.lengths.blocks));
    count_is = upd_set v.table.counts k (get_or v.table.counts k 0 + 1) (omega (arith, chose.below, g.whole.lengths.counts));
  }

  pub seen_one : (cache card : Bytes) → seen (with_block v b).table.blocks (with_block v b).table.counts (with_bytes v b card cache) card ≡ seen v.table.blocks v.table.counts cache card
  seen_one cache card = seen-taken v.table.blocks v.table.counts w.table.blocks w.table.counts k b (get_or v.table.counts k 0 + 1) taken cache card
