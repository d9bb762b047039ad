-- A block that is held stays where it is, with its bytes, through every call on other blocks; after a get the buffer's bytes are the block's;
-- and where buffers without references have the image's bytes, no call changes what is seen. Assumes nothing.
use Rattle.std.specs.Prelude.{◌≡◌, refl, ◌≢◌, ◌⊎◌, List, ℕ, ◌+◌, ◌-◌, ◌*◌, ◌≤◌, ◌<◌, get_or, length, set, eqb, Ok}
use Rattle.std.proofs.Common.{sym, ap, ◌∙◌, inl, inr, arith, length-set, ext_get_or, get_or-set_same, get_or-set_other, eqb-true}
use Rattle.std.proofs.Math.Decide.{ℕ_discrete, dec_lt}
use Rattle.base.specs.Bytes.{Bytes, bytes, put, put-at, put_out, is_put, block}
use Rattle.base.specs.First.{first-same, first_holds}
use Rattle.base.specs.Update.{upd, upd_set}
use Rattle.base.specs.declared.Refusal.{Refusal}
use Rattle.bio.specs.Fresh.{none}
use Rattle.bio.specs.Order.{least_recent, least_free}
use Rattle.bio.specs.Seen.{pinned, pinned-other, buffer_of, buffer_holds, buffer_is, buffer_none, seen, seen_in, seen_out, by_block}
use Rattle.bio.specs.Take.{Taken, taken_there, seen-taken, counted_buffer, seen_counted}
use Rattle.bio.specs.declared.Table.{Table}
use Rattle.cache.specs.Tables.{WellFormed, buffer_with, chosen, chosen_own, chosen_new, with_count, gotten, fetched, fetched_own, fetched_new, released, released_last, released_more}
use Rattle.cache.specs.Calls.{Left, GetGives, ReleaseGives, PinGives, UnpinGives, index, refused}
use Rattle.cache.specs.declared.After.{After}
use Rattle.cache.specs.Keeps.{Served, get-cases, count-here, count-other, block_here, block-other, refused_table}

-- block c is held: a buffer has it, with a reference
abbrev pub Held : Table → ℕ → Type 0
Held t c = buffer_of t.blocks t.counts c < 30

-- block c is in the buffer in which it was, with its bytes
pub record Stays (t : Table) (memory : Bytes) (t' : Table) (memory' : Bytes) (c : ℕ) : Type 0 where
  pub place : buffer_of t'.blocks t'.counts c ≡ buffer_of t.blocks t.counts c
  pub byte : (i : ℕ) → i < 1024 → memory' (buffer_of t.blocks t.counts c * 1024 + i) ≡ memory (buffer_of t.blocks t.counts c * 1024 + i)

-- a buffer without references that has a block has the bytes of the image
pub record Clean (t : Table) (memory image : Bytes) : Type 0 where
  pub each : (j : ℕ) → j < 30 → get_or t.counts j 0 ≡ 0 → get_or t.blocks j 0 < none
      → (i : ℕ) → i < 1024 → memory (j * 1024 + i) ≡ image (get_or t.blocks j 0 * 1024 + i)

-- what is seen through a table
abbrev pub seen_through : Table → Bytes → Bytes → Bytes
seen_through t memory image = seen t.blocks t.counts memory image

set_id : (l : List ℕ) (k v : ℕ) → k < length l → get_or l k 0 ≡ v → set l k v ≡ l
set_id l k v h e = ext_get_or 0 (set l k v) l (length-set l k v) (λ i m. elim (ℕ_discrete i k) [
  | yes z ↦ rw z (get_or-set_same l k v 0 h ∙ sym e)
  | no z ↦ get_or-set_other l k i v 0 z
])

module _ (t : Table) (memory image : List ℕ) (b : ℕ) (l : Left) (s : Served t memory image b l) where
  more : ℕ
  more = get_or t.counts (chosen t b) 0 + 1

  counts_long : chosen t b < length t.counts
  counts_long = omega (arith, s.below, s.well.sized.counts)

  blocks-long : chosen t b < length t.blocks
  blocks-long = omega (arith, s.below, s.well.sized.blocks)

  -- in its buffer
  got_here : buffer_of (gotten t b).blocks (gotten t b).counts b ≡ chosen t b
  got_here =
      buffer_is (gotten t b).blocks (gotten t b).counts b (chosen t b) s.below (block_here t s.well (chosen t b) s.below b)
      (omega (arith, count-here t s.well (chosen t b) s.below (get_or t.counts (chosen t b) 0 + 1)))
      (λ i m e. elim (ℕ_discrete i (chosen t b)) [
        | yes z ↦ z
        | no z ↦ s.only i m (sym (block-other t s.well (chosen t b) s.below b i z) ∙ e)
      ])

  -- a buffer with references is found, not taken
  own_held : 0 < get_or t.counts (chosen t b) 0 → (buffer_with t b < 30) × (get_or t.blocks (chosen t b) 0 ≡ b)
  own_held had = go (dec_lt (buffer_with t b) 30)
    where
      go : Dec (buffer_with t b < 30) → (buffer_with t b < 30) × (get_or t.blocks (chosen t b) 0 ≡ b)
      go (yes p) = (p, rw (chosen_own t b p) (eqb-true _ _ (first_holds (λ j. eqb (get_or t.blocks j 0) b) 30 p)))
      go (no p) =
          let e = chosen_new t b (omega arith) in
          let f : least_recent t.order t.counts < 30 = omega (arith, s.below) in
          absurd (omega (arith, least_free t.order t.counts f, ap (λ (x : ℕ). get_or t.counts x 0) e))

  same_blocks : 0 < get_or t.counts (chosen t b) 0 → (gotten t b).blocks ≡ t.blocks
  same_blocks had = set_id t.blocks (chosen t b) b blocks-long (own_held had).1

  -- one without references is taken
  took : get_or t.counts (chosen t b) 0 ≡ 0 → Taken t.blocks t.counts (gotten t b).blocks (gotten t b).counts (chosen t b) b (get_or t.counts (chosen t b) 0 + 1)
  took z = record {
    below = s.below;
    free = z;
    new = omega (arith, buffer_none t.blocks t.counts b (λ j m e c. omega (arith, ap (λ (x : ℕ). get_or t.counts x 0) (s.only j m e))));
    some = omega arith;
    block_is = upd_set t.blocks (chosen t b) b blocks-long;
    count_is = upd_set t.counts (chosen t b) (get_or t.counts (chosen t b) 0 + 1) counts_long;
  }

  -- every other block is where it was
  got_there : (c : ℕ) → c ≢ b → buffer_of (gotten t b).blocks (gotten t b).counts c ≡ buffer_of t.blocks t.counts c
  got_there c n = elim (ℕ_discrete (get_or t.counts (chosen t b) 0) 0) [
    | yes z ↦ taken_there t.blocks t.counts (gotten t b).blocks (gotten t b).counts (chosen t b) b (get_or t.counts (chosen t b) 0 + 1) (took z) c n
    | no z ↦
        ap (λ (x : List ℕ). buffer_of x (gotten t b).counts c) (same_blocks (omega arith))
        ∙ counted_buffer t.blocks t.counts (gotten t b).counts (chosen t b) (get_or t.counts (chosen t b) 0 + 1) (omega arith) (omega arith)
        (upd_set t.counts (chosen t b) (get_or t.counts (chosen t b) 0 + 1) counts_long) c
  ]

  got_place : (c : ℕ) → Held t c → buffer_of (gotten t b).blocks (gotten t b).counts c ≡ buffer_of t.blocks t.counts c
  got_place c h = elim (ℕ_discrete c b) [
    | yes z ↦ rw z (got_here ∙ sym (s.only (buffer_of t.blocks t.counts b) (rw z at h) (buffer_holds t.blocks t.counts b (rw z at h)).0))
    | no z ↦ got_there c z
  ]

  got_byte : (c : ℕ) → Held t c → (i : ℕ) → i < 1024
      → fetched t b (bytes image) (bytes memory) (buffer_of t.blocks t.counts c * 1024 + i) ≡ bytes memory (buffer_of t.blocks t.counts c * 1024 + i)
  got_byte c h i m = go (dec_lt (buffer_with t b) 30)
    where
      go : Dec (buffer_with t b < 30) → fetched t b (bytes image) (bytes memory) (buffer_of t.blocks t.counts c * 1024 + i) ≡ bytes memory (buffer_of t.blocks t.counts c * 1024 + i)
      go (yes p) = ap (λ (f : Bytes). f (buffer_of t.blocks t.counts c * 1024 + i)) (fetched_own t b (bytes image) (bytes memory) p)
      go (no p) =
          let e = chosen_new t b (omega arith) in
          let f : least_recent t.order t.counts < 30 = omega (arith, s.below) in
          let held = (buffer_holds t.blocks t.counts c h).1 in
          let q : buffer_of t.blocks t.counts c ≢ chosen t b = λ y. omega (arith, held, least_free t.order t.counts f, ap (λ (x : ℕ). get_or t.counts x 0) (y ∙ e)) in
          ap (λ (f : Bytes). f (buffer_of t.blocks t.counts c * 1024 + i)) (fetched_new t b (bytes image) (bytes memory) (omega arith))
          ∙ put_out (bytes memory) (chosen t b * 1024) 1024 (block (bytes image) b) (buffer_of t.blocks t.counts c * 1024 + i) (λ x y. q (omega arith))

  -- clean contents do not change what is seen
  filled_same : Clean t (bytes memory) (bytes image) → get_or t.counts (chosen t b) 0 ≡ 0 → buffer_with t b < 30
      → put (bytes memory) (chosen t b * 1024) 1024 (block (bytes image) b) ≡ bytes memory
  filled_same cl z p =
      let e : get_or t.blocks (chosen t b) 0 ≡ b = rw (chosen_own t b p) (eqb-true _ _ (first_holds (λ j. eqb (get_or t.blocks j 0) b) 30 p)) in
      sym (is_put (bytes memory) (bytes memory) (chosen t b * 1024) 1024 (block (bytes image) b)
      (λ i m. cl.each (chosen t b) s.below z (omega (arith, s.inside.real)) i m ∙ ap (λ (x : ℕ). bytes image (x * 1024 + i)) e)
      (λ x o. refl))

  got_seen : Clean t (bytes memory) (bytes image) → seen_through (gotten t b) (fetched t b (bytes image) (bytes memory)) (bytes image) ≡ seen_through t (bytes memory) (bytes image)
  got_seen cl = elim (ℕ_discrete (get_or t.counts (chosen t b) 0) 0) [
    | yes z ↦
        ap (λ (f : Bytes). seen_through (gotten t b) f (bytes image)) (full z (dec_lt (buffer_with t b) 30))
        ∙ seen-taken t.blocks t.counts (gotten t b).blocks (gotten t b).counts (chosen t b) b (get_or t.counts (chosen t b) 0 + 1) (took z) (bytes memory) (bytes image)
    | no z ↦
        let h = own_held (omega arith) in
        ap (λ (f : Bytes). seen_through (gotten t b) f (bytes image)) (fetched_own t b (bytes image) (bytes memory) h.0)
        ∙ ap (λ (x : List ℕ). seen x (gotten t b).counts (bytes memory) (bytes image)) (same_blocks (omega arith))
        ∙ seen_counted t.blocks t.counts (gotten t b).counts (chosen t b) (get_or t.counts (chosen t b) 0 + 1) (omega arith) (omega arith)
        (upd_set t.counts (chosen t b) (get_or t.counts (chosen t b) 0 + 1) counts_long) (bytes memory) (bytes image)
  ]
    where
      full : get_or t.counts (chosen t b) 0 ≡ 0 → Dec (buffer_with t b < 30) → fetched t b (bytes image) (bytes memory) ≡ put (bytes memory) (chosen t b * 1024) 1024 (block (bytes image) b)
      full z (yes p) = fetched_own t b (bytes image) (bytes memory) p ∙ sym (filled_same cl z p)
      full z (no p) = fetched_new t b (bytes image) (bytes memory) (omega arith)

  got_clean : Clean t (bytes memory) (bytes image) → Clean (gotten t b) (fetched t b (bytes image) (bytes memory)) (bytes image)
  got_clean cl = record {
    each = λ j m z y i n. elim (ℕ_discrete j (chosen t b)) [
      | yes e ↦ absurd (omega (arith, z, ap (λ (x : ℕ). get_or (gotten t b).counts x 0) e, count-here t s.well (chosen t b) s.below (get_or t.counts (chosen t b) 0 + 1)))
      | no e ↦
          let o : get_or (gotten t b).counts j 0 ≡ get_or t.counts j 0 = count-other t s.well (chosen t b) s.below (get_or t.counts (chosen t b) 0 + 1) j e in
          let q : get_or (gotten t b).blocks j 0 ≡ get_or t.blocks j 0 = block-other t s.well (chosen t b) s.below b j e in
          elsewhere j i n e (dec_lt (buffer_with t b) 30)
          ∙ cl.each j m (sym o ∙ z) (omega arith) i n
          ∙ ap (λ (x : ℕ). bytes image (x * 1024 + i)) (sym q)
    ];
  }
    where
      elsewhere : (j i : ℕ) → i < 1024 → j ≢ chosen t b → Dec (buffer_with t b < 30) → fetched t b (bytes image) (bytes memory) (j * 1024 + i) ≡ bytes memory (j * 1024 + i)
      elsewhere j i n e (yes p) = ap (λ (f : Bytes). f (j * 1024 + i)) (fetched_own t b (bytes image) (bytes memory) p)
      elsewhere j i n e (no p) =
          ap (λ (f : Bytes). f (j * 1024 + i)) (fetched_new t b (bytes image) (bytes memory) (omega arith))
          ∙ put_out (bytes memory) (chosen t b * 1024) 1024 (block (bytes image) b) (j * 1024 + i) (λ x y. e (omega arith))

refused-memory : (t : Table) (memory : List ℕ) (l : Left) → ((n : Refusal) × (l ≡ (refused t n, memory))) → bytes l.1 ≡ bytes memory
refused-memory t memory l r = ap (λ (x : Left). bytes x.1) r.1

-- no refusal names a buffer
refused_none : (t : Table) (memory : List ℕ) (l : Left) (k : ℕ) → k < 30 → ((n : Refusal) × (l ≡ (refused t n, memory))) → l.0.answer ≡ Ok k → ⊥
refused_none t memory l k h r e = omega (arith, sym (ap (λ (x : Left). index x.0.answer) r.1) ∙ ap index e)

module _ (t : Table) (memory image : List ℕ) (b : ℕ) (l : Left) (w : WellFormed t) (g : GetGives t memory image b l) where
  -- every block that was held, b among them, is where it was, with its bytes, whether the get is served or refused
  pub get_stays : (c : ℕ) → Held t c → Stays t (bytes memory) l.0.table (bytes l.1) c
  get_stays c h = go (get-cases t memory image b l w g)
    where
      go : ((n : Refusal) × (l ≡ (refused t n, memory))) ⊎ Served t memory image b l → Stays t (bytes memory) l.0.table (bytes l.1) c
      go (inl r) = rw (refused_table t memory l r, refused-memory t memory l r) (record { place = refl; byte = λ i m. refl })
      go (inr s) = rw (s.got.table, s.got.memory_is) (record { place = got_place t memory image b l s c h; byte = got_byte t memory image b l s c h })

  -- a get that names a buffer: block b is held there
  module _ (k : ℕ) (low : k < 30) (e : l.0.answer ≡ Ok k) where
    served : Served t memory image b l
    served = go (get-cases t memory image b l w g)
      where
        go : ((n : Refusal) × (l ≡ (refused t n, memory))) ⊎ Served t memory image b l → Served t memory image b l
        go (inl r) = absurd (refused_none t memory l k low r e)
        go (inr s) = s

    named_is : k ≡ chosen t b
    named_is = ap index (sym e ∙ served.got.answer)

    pub get_holds : buffer_of l.0.table.blocks l.0.table.counts b ≡ k
    get_holds = rw served.got.table (got_here t memory image b l served ∙ sym named_is)

    -- a block that no buffer had is read from the image, whole
    pub get_reads : 30 ≤ buffer_with t b → (i : ℕ) → i < 1024 → bytes l.1 (k * 1024 + i) ≡ bytes image (b * 1024 + i)
    get_reads new i m =
        ap (λ (x : ℕ). bytes l.1 (x * 1024 + i)) named_is
        ∙ ap (λ (f : Bytes). f (chosen t b * 1024 + i)) (served.got.memory_is ∙ fetched_new t b (bytes image) (bytes memory) new)
        ∙ put-at (bytes memory) (chosen t b * 1024) 1024 (block (bytes image) b) i m

    -- and where clean buffers have the image's bytes, any block's bytes are as they were seen
    pub get_shows : Clean t (bytes memory) (bytes image) → (i : ℕ) → i < 1024 → bytes l.1 (k * 1024 + i) ≡ seen_through t (bytes memory) (bytes image) (b * 1024 + i)
    get_shows cl i m =
        ap (λ (x : ℕ). bytes l.1 (x * 1024 + i)) named_is
        ∙ ap (λ (f : Bytes). f (chosen t b * 1024 + i)) served.got.memory_is
        ∙ ap (λ (x : ℕ). fetched t b (bytes image) (bytes memory) (x * 1024 + i)) (sym (got_here t memory image b l served))
        ∙ sym (seen_in (gotten t b).blocks (gotten t b).counts (fetched t b (bytes image) (bytes memory)) (bytes image) b i m (omega (arith, got_here t memory image b l served, served.below)))
        ∙ ap (λ (f : Bytes). f (b * 1024 + i)) (got_seen t memory image b l served cl)

  -- a get leaves what is seen as it was, and clean buffers clean
  pub get_seen : Clean t (bytes memory) (bytes image) → seen_through l.0.table (bytes l.1) (bytes image) ≡ seen_through t (bytes memory) (bytes image)
  get_seen cl = go (get-cases t memory image b l w g)
    where
      go : ((n : Refusal) × (l ≡ (refused t n, memory))) ⊎ Served t memory image b l → seen_through l.0.table (bytes l.1) (bytes image) ≡ seen_through t (bytes memory) (bytes image)
      go (inl r) = rw (refused_table t memory l r, refused-memory t memory l r) refl
      go (inr s) = rw (s.got.table, s.got.memory_is) (got_seen t memory image b l s cl)

  pub get_clean : Clean t (bytes memory) (bytes image) → Clean l.0.table (bytes l.1) (bytes image)
  get_clean cl = go (get-cases t memory image b l w g)
    where
      go : ((n : Refusal) × (l ≡ (refused t n, memory))) ⊎ Served t memory image b l → Clean l.0.table (bytes l.1) (bytes image)
      go (inl r) = rw (refused_table t memory l r, refused-memory t memory l r) cl
      go (inr s) = rw (s.got.table, s.got.memory_is) (got_clean t memory image b l s cl)

-- ---- release, pin and unpin: no memory is lent to them, and every block of another buffer stays

same_memory : (t t' : Table) (c : ℕ) → buffer_of t'.blocks t'.counts c ≡ buffer_of t.blocks t.counts c → (memory : Bytes) → Stays t memory t' memory c
same_memory t t' c e memory = record { place = e; byte = λ i m. refl }

counted_other : (blocks counts : List ℕ) (j n c : ℕ) → get_or blocks j 0 ≢ c → buffer_of blocks (set counts j n) c ≡ buffer_of blocks counts c
unfolding buffer_of pinned
counted_other blocks counts j n c h = first-same (pinned blocks (set counts j n) c) (pinned blocks counts c) 30 (λ i m. elim (ℕ_discrete i j) [
  | yes z ↦ rw z (pinned-other blocks (set counts j n) c j h ∙ sym (pinned-other blocks counts c j h))
  | no z ↦ rw (get_or-set_other counts j i n 0 z) refl
])

-- the block of another buffer
pub release_stays : (t : Table) (j : ℕ) (a : After Unit) → WellFormed t → ReleaseGives t j a → (c : ℕ) → get_or t.blocks j 0 ≢ c → (memory : Bytes) → Stays t memory a.table memory c
release_stays t j a w (inl g) c n memory = absurd (g.0 w)
release_stays t j a w (inr (h1, inl g)) c n memory = rw g.1 (same_memory t t c refl memory)
release_stays t j a w (inr (h1, inr (h2, inl g))) c n memory = rw g.1 (same_memory t t c refl memory)
release_stays t j a w (inr (h1, inr (h2, inr (h3, g)))) c n memory = rw g.is (go (ℕ_discrete (get_or t.counts j 0) 1))
  where
    go : Dec (get_or t.counts j 0 ≡ 1) → Stays t memory (released t j) memory c
    go (yes e) = rw (released_last t j e) (record { place = counted_other t.blocks t.counts j 0 c n; byte = λ i m. refl })
    go (no e) = rw (released_more t j e) (record { place = counted_other t.blocks t.counts j (get_or t.counts j 0 - 1) c n; byte = λ i m. refl })

-- a reference more or less, and one at least before and after: every block stays, and all that is seen
module _ (t : Table) (w : WellFormed t) (j n : ℕ) (low : j < 30) (had : 0 < get_or t.counts j 0) (some : 0 < n) where
  is_set_bit : bytes (set t.counts j n) ≡ upd (bytes t.counts) j n
  is_set_bit = upd_set t.counts j n (omega (arith, w.sized.counts))

  count_stays : (c : ℕ) (memory : Bytes) → Stays t memory (with_count t j n) memory c
  count_stays c memory = record { place = counted_buffer t.blocks t.counts (set t.counts j n) j n had some is_set_bit c; byte = λ i m. refl }

  count-seen : (memory image : Bytes) → seen_through (with_count t j n) memory image ≡ seen_through t memory image
  count-seen memory image = seen_counted t.blocks t.counts (set t.counts j n) j n had some is_set_bit memory image

pub pin_stays : (t : Table) (j : ℕ) (a : After Unit) → WellFormed t → PinGives t j a → (c : ℕ) (memory : Bytes) → Stays t memory a.table memory c
pin_stays t j a w (inl g) c memory = absurd (g.0 w)
pin_stays t j a w (inr (h1, inl g)) c memory = rw g.1 (same_memory t t c refl memory)
pin_stays t j a w (inr (h1, inr (h2, inl g))) c memory = rw g.1 (same_memory t t c refl memory)
pin_stays t j a w (inr (h1, inr (h2, inr (h3, inl g)))) c memory = rw g.1 (same_memory t t c refl memory)
pin_stays t j a w (inr (h1, inr (h2, inr (h3, inr (h4, g))))) c memory =
    rw g.is (count_stays t w j (get_or t.counts j 0 + 1) (omega (arith, h2)) (omega (arith, h3)) (omega arith) c memory)

pub unpin_stays : (t : Table) (j : ℕ) (a : After Unit) → WellFormed t → UnpinGives t j a → (c : ℕ) (memory : Bytes) → Stays t memory a.table memory c
unpin_stays t j a w (inl g) c memory = absurd (g.0 w)
unpin_stays t j a w (inr (h1, inl g)) c memory = rw g.1 (same_memory t t c refl memory)
unpin_stays t j a w (inr (h1, inr (h2, inl g))) c memory = rw g.1 (same_memory t t c refl memory)
unpin_stays t j a w (inr (h1, inr (h2, inr (h3, g)))) c memory =
    rw g.is (count_stays t w j (get_or t.counts j 0 - 1) (omega (arith, h2)) (omega (arith, h3)) (omega (arith, h3)) c memory)

-- ---- what is seen through release, pin and unpin

-- the last reference goes from a buffer that has a block, with the image's bytes
module _ (t : Table) (w : WellFormed t) (j : ℕ) (low : j < 30) (real : get_or t.blocks j 0 < none) (one : get_or t.counts j 0 ≡ 1) where
  was_here : buffer_of t.blocks t.counts (get_or t.blocks j 0) ≡ j
  was_here = buffer_is t.blocks t.counts (get_or t.blocks j 0) j low refl (omega arith) (λ i m e. w.once.same i j m low (omega arith) e)

  gone_now : buffer_of t.blocks (set t.counts j 0) (get_or t.blocks j 0) ≡ 30
  gone_now = buffer_none t.blocks (set t.counts j 0) (get_or t.blocks j 0) (λ i m e c.
      let z : i ≡ j = w.once.same i j m low (omega arith) e in
      omega (arith, ap (λ (x : ℕ). get_or (set t.counts j 0) x 0) z, count-here t w j low 0))

  gone_seen : (memory image : Bytes) → ((i : ℕ) → i < 1024 → memory (j * 1024 + i) ≡ image (get_or t.blocks j 0 * 1024 + i))
      → seen t.blocks (set t.counts j 0) memory image ≡ seen t.blocks t.counts memory image
  gone_seen memory image same = by_block _ _ (λ c i m. elim (ℕ_discrete (get_or t.blocks j 0) c) [ yes z ↦ rw (← z) (here i m) | no z ↦ there c i m z (dec_lt (buffer_of t.blocks t.counts c) 30) ])
    where
      here : (i : ℕ) → i < 1024 → seen t.blocks (set t.counts j 0) memory image (get_or t.blocks j 0 * 1024 + i) ≡ seen t.blocks t.counts memory image (get_or t.blocks j 0 * 1024 + i)
      here i m =
          seen_out t.blocks (set t.counts j 0) memory image (get_or t.blocks j 0) i m (omega (arith, gone_now))
          ∙ sym (same i m)
          ∙ ap (λ (x : ℕ). memory (x * 1024 + i)) (sym was_here)
          ∙ sym (seen_in t.blocks t.counts memory image (get_or t.blocks j 0) i m (omega (arith, was_here)))

      there : (c i : ℕ) → i < 1024 → get_or t.blocks j 0 ≢ c → Dec (buffer_of t.blocks t.counts c < 30)
          → seen t.blocks (set t.counts j 0) memory image (c * 1024 + i) ≡ seen t.blocks t.counts memory image (c * 1024 + i)
      there c i m z (yes p) =
          let e = counted_other t.blocks t.counts j 0 c z in
          seen_in t.blocks (set t.counts j 0) memory image c i m (omega (arith, e))
          ∙ ap (λ (x : ℕ). memory (x * 1024 + i)) e
          ∙ sym (seen_in t.blocks t.counts memory image c i m p)
      there c i m z (no p) =
          seen_out t.blocks (set t.counts j 0) memory image c i m (omega (arith, counted_other t.blocks t.counts j 0 c z))
          ∙ sym (seen_out t.blocks t.counts memory image c i m (omega arith))

-- nothing else is seen, and clean buffers are clean
pub record Unseen (t t' : Table) (memory image : Bytes) : Type 0 where
  pub same : seen_through t' memory image ≡ seen_through t memory image
  pub clean : Clean t memory image → Clean t' memory image

unchanged : (t : Table) (memory image : Bytes) → Unseen t t memory image
unchanged t memory image = record { same = refl; clean = λ c. c }

-- buffer j has n references, and where that is none, its block's bytes
count_clean : (t : Table) (w : WellFormed t) (j n : ℕ) (low : j < 30) (memory image : Bytes)
    → (n ≡ 0 → (i : ℕ) → i < 1024 → memory (j * 1024 + i) ≡ image (get_or t.blocks j 0 * 1024 + i))
    → Clean t memory image → Clean (with_count t j n) memory image
count_clean t w j n low memory image same cl = record {
  each = λ k m z y i q. elim (ℕ_discrete k j) [
    | yes e ↦
        let c : n ≡ 0 = sym (count-here t w j low n) ∙ ap (λ (x : ℕ). get_or (set t.counts j n) x 0) (sym e) ∙ z in
        ap (λ (x : ℕ). memory (x * 1024 + i)) e ∙ same c i q ∙ ap (λ (x : ℕ). image (get_or t.blocks x 0 * 1024 + i)) (sym e)
    | no e ↦ cl.each k m (sym (count-other t w j low n k e) ∙ z) y i q
  ];
}

count_unseen : (t : Table) (w : WellFormed t) (j n : ℕ) (low : j < 30) → 0 < get_or t.counts j 0 → 0 < n → (memory image : Bytes) → Unseen t (with_count t j n) memory image
count_unseen t w j n low had some memory image = record {
  same = count-seen t w j n low had some memory image;
  clean = count_clean t w j n low memory image (λ z. absurd (omega arith));
}

pub pin_unseen : (t : Table) (j : ℕ) (a : After Unit) → WellFormed t → PinGives t j a → (memory image : Bytes) → Unseen t a.table memory image
pin_unseen t j a w (inl g) memory image = absurd (g.0 w)
pin_unseen t j a w (inr (h1, inl g)) memory image = rw g.1 (unchanged t memory image)
pin_unseen t j a w (inr (h1, inr (h2, inl g))) memory image = rw g.1 (unchanged t memory image)
pin_unseen t j a w (inr (h1, inr (h2, inr (h3, inl g)))) memory image = rw g.1 (unchanged t memory image)
pin_unseen t j a w (inr (h1, inr (h2, inr (h3, inr (h4, g))))) memory image =
    rw g.is (count_unseen t w j (get_or t.counts j 0 + 1) (omega (arith, h2)) (omega (arith, h3)) (omega arith) memory image)

pub unpin_unseen : (t : Table) (j : ℕ) (a : After Unit) → WellFormed t → UnpinGives t j a → (memory image : Bytes) → Unseen t a.table memory image
unpin_unseen t j a w (inl g) memory image = absurd (g.0 w)
unpin_unseen t j a w (inr (h1, inl g)) memory image = rw g.1 (unchanged t memory image)
unpin_unseen t j a w (inr (h1, inr (h2, inl g))) memory image = rw g.1 (unchanged t memory image)
unpin_unseen t j a w (inr (h1, inr (h2, inr (h3, g)))) memory image =
    rw g.is (count_unseen t w j (get_or t.counts j 0 - 1) (omega (arith, h2)) (omega (arith, h3)) (omega (arith, h3)) memory image)

-- a release, where the buffer has a block, with the image's bytes if the reference is the last
pub release_unseen : (t : Table) (j : ℕ) (a : After Unit) → WellFormed t → ReleaseGives t j a → (memory image : Bytes) → get_or t.blocks j 0 < none
    → (get_or t.counts j 0 ≡ 1 → (i : ℕ) → i < 1024 → memory (j * 1024 + i) ≡ image (get_or t.blocks j 0 * 1024 + i))
    → Unseen t a.table memory image
release_unseen t j a w (inl g) memory image real same = absurd (g.0 w)
release_unseen t j a w (inr (h1, inl g)) memory image real same = rw g.1 (unchanged t memory image)
release_unseen t j a w (inr (h1, inr (h2, inl g))) memory image real same = rw g.1 (unchanged t memory image)
release_unseen t j a w (inr (h1, inr (h2, inr (h3, g)))) memory image real same = rw g.is (go (ℕ_discrete (get_or t.counts j 0) 1))
  where
    low : j < 30
    low = omega (arith, h2)

    go : Dec (get_or t.counts j 0 ≡ 1) → Unseen t (released t j) memory image
    go (yes e) = rw (released_last t j e) (record {
      same = gone_seen t w j low real e memory image (same e);
      clean = λ cl. let c = count_clean t w j 0 low memory image (λ z. same e) cl in record { each = c.each };
    })
    go (no e) = rw (released_more t j e) (count_unseen t w j (get_or t.counts j 0 - 1) low (omega (arith, h3)) (omega (arith, h3)) memory image)
