-- What a whole state gives to those who use it: where each home is, what is not recorded, how many there are. Assumes nothing.
use Rattle.std.specs.Prelude.{◌≡◌, refl, Bool, true, false, cond, List, ℕ, ◌*◌, ◌≤◌, ◌<◌, get_or, length, ltb}
use Rattle.std.proofs.Common.{sym, ap, ◌∙◌, arith}
use Rattle.std.proofs.Math.Decide.{ℕ_discrete, dec_lt}
use Rattle.std.proofs.Math.Dec.{eqb}
use borrow.Author.Tests.{eqb-true, ltb-true, lt-ltb, le-ltb}
use Rattle.base.specs.First.{first, first_holds}
use Rattle.base.specs.Pigeon.{pigeon}
use Rattle.bio.specs.Among.{among, among_where, among_yes}
use Rattle.bio.specs.Order.{Named}
use Rattle.bio.specs.Seen.{buffer_of, buffer_holds, buffer_none, held_below}
use Rattle.superblock.specs.Geometry.{GoodNumbers}
use Rattle.state.specs.Whole.{Volume, Buffered, Whole, Pinned}
use Rattle.state.specs.Marks.{count_is}
use Rattle.state.specs.Card.{card-numbers, card-length}

module _ (blocks counts homes : List ℕ) (n low size : ℕ) (g : Buffered blocks counts homes n low size) where
  -- a recorded block: it is on the card, in one buffer, with count 1
  pub recorded_low : (b : ℕ) → among homes n b ≡ true → low ≤ b
  recorded_low b e = let w = among_where homes n b e in omega (arith, g.list.low w.0 w.1, w.2)

  pub recorded_high : (b : ℕ) → among homes n b ≡ true → b < size
  recorded_high b e = let w = among_where homes n b e in omega (arith, g.list.high w.0 w.1, w.2)

  pub recorded_pinned : (b : ℕ) → among homes n b ≡ true → Pinned blocks counts b
  recorded_pinned b e = let w = among_where homes n b e in rw w.2 at (g.buffers.held w.0 w.1)

  pub recorded_below : (b : ℕ) → among homes n b ≡ true → buffer_of blocks counts b < 30
  recorded_below b e = let p = recorded_pinned b e in held_below blocks counts b p.at p.below p.block (omega (arith, p.count))

  pub recorded_count : (b : ℕ) → among homes n b ≡ true → get_or counts (buffer_of blocks counts b) 0 ≡ 1
  recorded_count b e =
      let l = recorded_below b e in
      let h = buffer_holds blocks counts b l in
      count_is blocks counts homes n low size g (buffer_of blocks counts b) l ∙ ap (λ (x : ℕ). cond (among homes n x) 1 0) h.0 ∙ ap (λ (t : Bool). cond t 1 0) e

  -- a block that is not recorded is in no buffer with a reference
  pub unrecorded_none : (b : ℕ) → among homes n b ≡ false → buffer_of blocks counts b ≡ 30
  unrecorded_none b e = buffer_none blocks counts b (λ j l h c. omega (arith, g.buffers.others j l (ap (among homes n) h ∙ e)))

  pub held_recorded : (b : ℕ) → buffer_of blocks counts b < 30 → among homes n b ≡ true
  held_recorded b l = go (among homes n b) refl
    where
      go : (t : Bool) → among homes n b ≡ t → t ≡ true
      go true e = refl
      go false e = absurd (omega (arith, unrecorded_none b e))

  -- home i's buffer
  pub home_among : (i : ℕ) → i < n → among homes n (get_or homes i 0) ≡ true
  home_among i l = among_yes homes n (get_or homes i 0) i l refl

  pub home_below : (i : ℕ) → i < n → buffer_of blocks counts (get_or homes i 0) < 30
  home_below i l = recorded_below (get_or homes i 0) (home_among i l)

  pub home_count : (i : ℕ) → i < n → get_or counts (buffer_of blocks counts (get_or homes i 0)) 0 ≡ 1
  home_count i l = recorded_count (get_or homes i 0) (home_among i l)

  -- two homes are in two buffers
  pub home_apart : (i j : ℕ) → i < n → j < n → buffer_of blocks counts (get_or homes i 0) ≡ buffer_of blocks counts (get_or homes j 0) → i ≡ j
  home_apart i j li lj e =
      let x = buffer_holds blocks counts (get_or homes i 0) (home_below i li) in
      let y = buffer_holds blocks counts (get_or homes j 0) (home_below j lj) in
      g.list.distinct.same i j li lj (g.list.high i li) (sym x.0 ∙ ap (λ (k : ℕ). get_or blocks k 0) e ∙ y.0)

-- the order: each place names a buffer, and no two places the same
module _ (order : List ℕ) (o : Named order) where
  -- where the order names buffer k
  abbrev place : ℕ → ℕ
  place k = first (λ i. eqb (get_or order i 0) k) 30

  place_is : (k : ℕ) → k < 30 → (place k < 30) × (get_or order (place k) 0 ≡ k)
  unfolding among
  place_is k h =
      let l : place k < 30 = ltb-true (place k) 30 (o.each k h) in
      (l, eqb-true (get_or order (place k) 0) k (first_holds (λ i. eqb (get_or order i 0) k) 30 l))

  place-apart : (a b : ℕ) → a < 30 → b < 30 → place a ≡ place b → a ≡ b
  place-apart a b la lb e = sym (place_is a la).1 ∙ ap (λ (x : ℕ). get_or order x 0) e ∙ (place_is b lb).1

  -- every place is the place of some buffer: else 31 numbers, the place and those of the buffers, were distinct below 30
  every-place : (i : ℕ) → i < 30 → ((k : ℕ) → k < 30 → place k ≡ i → ⊥) → ⊥
  every-place i l none = let q : 31 ≤ 30 = pigeon 30 31 f below apart in omega arith
    where
      f : ℕ → ℕ
      f k = cond (ltb k 30) (place k) i

      f_low : (k : ℕ) → k < 30 → f k ≡ place k
      f_low k h = rw (lt-ltb k 30 h)

      f_high : (k : ℕ) → 30 ≤ k → f k ≡ i
      f_high k h = rw (le-ltb k 30 h)

      below : (k : ℕ) → k < 31 → f k < 30
      below k h = elim (dec_lt k 30) [ yes m ↦ rw (f_low k m) (place_is k m).0 | no m ↦ rw (f_high k (omega arith)) l ]

      apart : (a b : ℕ) → a < 31 → b < 31 → f a ≡ f b → a ≡ b
      apart a b la lb e = elim (dec_lt a 30) [
        | yes x ↦ elim (dec_lt b 30) [
          | yes y ↦ place-apart a b x y (sym (f_low a x) ∙ e ∙ f_low b y)
          | no y ↦ absurd (none a x (sym (f_low a x) ∙ e ∙ f_high b (omega arith)))
        ]
        | no x ↦ elim (dec_lt b 30) [
          | yes y ↦ absurd (none b y (sym (f_low b y) ∙ sym e ∙ f_high a (omega arith)))
          | no y ↦ omega arith
        ]
      ]

  pub order_below : (i : ℕ) → i < 30 → get_or order i 0 < 30
  order_below i l = elim (dec_lt (get_or order i 0) 30) [
    | yes h ↦ h
    | no h ↦ absurd (every-place i l (λ k m e. let z : get_or order i 0 ≡ k = ap (λ (x : ℕ). get_or order x 0) (sym e) ∙ (place_is k m).1 in omega arith))
  ]

  place-back : (i : ℕ) → i < 30 → place (get_or order i 0) ≡ i
  place-back i l = elim (ℕ_discrete (place (get_or order i 0)) i) [
    | yes z ↦ z
    | no z ↦ absurd (every-place i l (λ k m e. let y : get_or order i 0 ≡ k = ap (λ (x : ℕ). get_or order x 0) (sym e) ∙ (place_is k m).1 in z (ap place y ∙ e)))
  ]

  pub named_once : (i j : ℕ) → i < 30 → j < 30 → get_or order i 0 ≡ get_or order j 0 → i ≡ j
  named_once i j li lj e = sym (place-back i li) ∙ ap place e ∙ place-back j lj

-- of a whole volume
module _ (v : Volume) (image : List ℕ) (w : Whole v image) where
  pub whole_numbers : GoodNumbers v.sb
  whole_numbers = card-numbers v.sb image w.card

  pub whole_length : length image ≡ v.sb.size * 1024
  whole_length = card-length v.sb image w.card

  pub whole_few : v.recorded ≤ 28
  whole_few = omega (arith, w.counts.room)
