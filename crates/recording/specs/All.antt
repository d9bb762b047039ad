-- A list of blocks recorded, ascending: what a caller learns. The state stays whole, what is seen stays, the homes grow by exactly the new ones in
-- order, and nothing else of the state changes but the buffers. Assumes nothing.
use Rattle.std.specs.Prelude.{◌≡◌, refl, Bool, true, false, cond, List, ℕ, zero, suc, ◌+◌, ◌≤◌, ◌<◌, min, get_or}
use Rattle.std.proofs.Common.{sym, ap, ◌∙◌, arith, add-one}
use Rattle.std.proofs.Math.Decide.{ℕ_discrete}
use Rattle.base.specs.Bytes.{Bytes, bytes}
use Rattle.bio.specs.Among.{among}
use Rattle.bio.specs.Seen.{seen, buffer_of}
use Rattle.state.specs.declared.Volume.{Volume}
use Rattle.state.specs.Whole.{Whole}
use Rattle.cache.specs.Tables.{chosen}
use Rattle.state.specs.Given.{recorded_below}
use Rattle.recording.specs.Record.{is_recorded, with_block, with_bytes, touched, touched_bytes, record_all, record_bytes, news_of, news, Touches}
use Rattle.recording.specs.One.{Recordable, chose, whole_one, seen_one, home_new, home_old, among_new, among_old}

-- block b may be recorded, if it is not
pub record Touch (v : Volume) (b : ℕ) (image : List ℕ) : Type 0 where
  pub whole : Whole v image
  pub ops : v.ops ≡ 0 → ⊥
  pub low : v.sb.inodestart ≤ b
  pub high : b < v.sb.size
  pub room : v.recorded + cond (is_recorded v b) 0 1 + 2 ≤ min 30 v.sb.nlog

-- w is v with block b recorded, if it was not
pub record Ensured (v w : Volume) (b : ℕ) (image : List ℕ) (cache cache' : Bytes) : Type 0 where
  pub whole : Whole w image
  pub same : seen w.table.blocks w.table.counts cache' (bytes image) ≡ seen v.table.blocks v.table.counts cache (bytes image)
  pub here : is_recorded w b ≡ true
  pub others : (x : ℕ) → (x ≡ b → ⊥) → is_recorded w x ≡ is_recorded v x
  pub count : w.recorded ≡ v.recorded + cond (is_recorded v b) 0 1
  pub homes : (i : ℕ) → i < v.recorded → get_or w.homes i 0 ≡ get_or v.homes i 0
  pub last : is_recorded v b ≡ false → get_or w.homes v.recorded 0 ≡ b
  pub sb : w.sb ≡ v.sb
  pub order : w.table.order ≡ v.table.order
  pub ops : w.ops ≡ v.ops
  pub slots : w.slots ≡ v.slots
  pub live : w.live ≡ v.live

-- by cases
module _ (v : Volume) (b : ℕ) where
  pub touched_old : is_recorded v b ≡ true → touched v b ≡ v
  unfolding touched
  touched_old e = rw e

  pub touched_new : is_recorded v b ≡ false → touched v b ≡ with_block v b
  unfolding touched
  touched_new e = rw e

  module _ (image cache : Bytes) where
    pub bytes_old : is_recorded v b ≡ true → touched_bytes v b image cache ≡ cache
    unfolding touched_bytes
    bytes_old e = rw e

    pub bytes_new : is_recorded v b ≡ false → touched_bytes v b image cache ≡ with_bytes v b image cache
    unfolding touched_bytes
    bytes_new e = rw e

module _ (v : Volume) (b : ℕ) (image : List ℕ) (g : Touch v b image) where
  pub recordable : is_recorded v b ≡ false → Recordable v b image
  recordable new = record {
    whole = g.whole;
    ops = g.ops;
    low = g.low;
    high = g.high;
    new = new;
    room = let e : ◌≡◌ {A = ℕ} (cond (is_recorded v b) 0 1) 1 = ap (λ (x : Bool). cond x 0 1) new in omega (arith, g.room);
  }

  -- the buffer that it takes
  pub choice : is_recorded v b ≡ false → chosen v.table b < 30
  choice new = (chose v b image (recordable new)).below

  ensured_new : (cache : Bytes) → is_recorded v b ≡ false → Ensured v (with_block v b) b image cache (with_bytes v b (bytes image) cache)
  ensured_new cache new = record {
    whole = whole_one v b image (recordable new);
    same = seen_one v b image (recordable new) cache (bytes image);
    here = among_new v b image (recordable new);
    others = among_old v b image (recordable new);
    count = ap (λ (x : Bool). v.recorded + cond x 0 1) (sym new);
    homes = home_old v b image (recordable new);
    last = λ _. home_new v b image (recordable new);
    sb = refl;
    order = refl;
    ops = refl;
    slots = refl;
    live = refl;
  }

  ensured_old : (cache : Bytes) → is_recorded v b ≡ true → Ensured v v b image cache cache
  ensured_old cache old = record {
    whole = g.whole;
    same = refl;
    here = old;
    others = λ x n. refl;
    count = let z : ◌≡◌ {A = ℕ} (cond (is_recorded v b) 0 1) 0 = ap (λ (x : Bool). cond x 0 1) old in omega arith;
    homes = λ i l. refl;
    last = λ f. absurd (let z : true ≡ false = sym old ∙ f in let y : ◌≡◌ {A = ℕ} 0 1 = cc in omega arith);
    sb = refl;
    order = refl;
    ops = refl;
    slots = refl;
    live = refl;
  }

  pub ensured : (cache : Bytes) → Ensured v (touched v b) b image cache (touched_bytes v b (bytes image) cache)
  ensured cache = go (is_recorded v b) refl
    where
      go : (t : Bool) → is_recorded v b ≡ t → Ensured v (touched v b) b image cache (touched_bytes v b (bytes image) cache)
      go true e = rw (touched_old v b e, bytes_old v b (bytes image) cache e) (ensured_old cache e)
      go false e = rw (touched_new v b e, bytes_new v b (bytes image) cache e) (ensured_new cache e)

-- ---- how many are new

pub news-none : (homes : List ℕ) (r : ℕ) (l : List ℕ) → news_of homes r l 0 ≡ 0
unfolding news_of
news-none homes r l = refl

pub news_more : (homes : List ℕ) (r : ℕ) (l : List ℕ) (i : ℕ) → news_of homes r l (i + 1) ≡ news_of homes r l i + cond (among homes r (get_or l i 0)) 0 1
unfolding news_of
news_more homes r l i = rw add-one

news_step : (homes : List ℕ) (r : ℕ) (l : List ℕ) (i : ℕ) → news_of homes r l i ≤ news_of homes r l (i + 1)
news_step homes r l i = omega (arith, news_more homes r l i)

pub news_mono : (homes : List ℕ) (r : ℕ) (l : List ℕ) (i n : ℕ) → i ≤ n → news_of homes r l i ≤ news_of homes r l n
news_mono homes r l i zero h = let e : i ≡ 0 = omega arith in rw e (omega arith)
news_mono homes r l i (suc n) h = elim (ℕ_discrete i (suc n)) [
  | yes e ↦ rw e (omega arith)
  | no e ↦ let z : suc n ≡ n + 1 = omega arith in rw z (omega (arith, news_mono homes r l i n (omega arith), news_step homes r l n))
]

-- ---- the list

pub none_recorded : (v : Volume) (l : List ℕ) → record_all v l 0 ≡ v
unfolding record_all
none_recorded v l = refl

pub one_more : (v : Volume) (l : List ℕ) (i : ℕ) → record_all v l (i + 1) ≡ touched (record_all v l i) (get_or l i 0)
unfolding record_all
one_more v l i = rw add-one

pub no_bytes : (v : Volume) (l : List ℕ) (image cache : Bytes) → record_bytes v l 0 image cache ≡ cache
unfolding record_bytes
no_bytes v l image cache = refl

pub more_bytes : (v : Volume) (l : List ℕ) (i : ℕ) (image cache : Bytes)
    → record_bytes v l (i + 1) image cache ≡ touched_bytes (record_all v l i) (get_or l i 0) image (record_bytes v l i image cache)
unfolding record_bytes
more_bytes v l i image cache = rw add-one

-- w is v with those of the first n recorded that were not, in their order
pub record All (v w : Volume) (l : List ℕ) (n : ℕ) (image : List ℕ) (cache cache' : Bytes) : Type 0 where
  pub whole : Whole w image
  pub same : seen w.table.blocks w.table.counts cache' (bytes image) ≡ seen v.table.blocks v.table.counts cache (bytes image)
  pub here : (i : ℕ) → i < n → is_recorded w (get_or l i 0) ≡ true
  pub rest : (x : ℕ) → ((i : ℕ) → i < n → x ≡ get_or l i 0 → ⊥) → is_recorded w x ≡ is_recorded v x
  pub count : w.recorded ≡ v.recorded + news v l n
  pub homes : (i : ℕ) → i < v.recorded → get_or w.homes i 0 ≡ get_or v.homes i 0
  pub last : (i : ℕ) → i < n → is_recorded v (get_or l i 0) ≡ false → get_or w.homes (v.recorded + news v l i) 0 ≡ get_or l i 0
  pub sb : w.sb ≡ v.sb
  pub order : w.table.order ≡ v.table.order
  pub ops : w.ops ≡ v.ops
  pub slots : w.slots ≡ v.slots
  pub live : w.live ≡ v.live

all_none : (v : Volume) (l image : List ℕ) (cache : Bytes) → Whole v image → All v v l 0 image cache cache
all_none v l image cache w = record {
  whole = w;
  same = refl;
  here = λ i h. absurd (omega arith);
  rest = λ x h. refl;
  count = omega (arith, news-none v.homes v.recorded l);
  homes = λ i h. refl;
  last = λ i h. absurd (omega arith);
  sb = refl;
  order = refl;
  ops = refl;
  slots = refl;
  live = refl;
}

module _ (v w : Volume) (l image : List ℕ) (n i : ℕ) (cache mid : Bytes) (g : Touches v l n image) (a : All v w l i image cache mid) (h : i < n) where
  as_was : is_recorded w (get_or l i 0) ≡ is_recorded v (get_or l i 0)
  as_was = a.rest (get_or l i 0) (λ j m e. omega (arith, g.up j i m h))

  all_touch : Touch w (get_or l i 0) image
  all_touch = record {
    whole = a.whole;
    ops = λ e. g.ops (sym a.ops ∙ e);
    low = rw a.sb (g.low i h);
    high = rw a.sb (g.high i h);
    room = rw (as_was, a.sb) (omega (arith, a.count, g.room.fits, news_more v.homes v.recorded l i, news_mono v.homes v.recorded l (i + 1) n (omega arith)));
  }

  all_more : (u : Volume) (cache' : Bytes) → Ensured w u (get_or l i 0) image mid cache' → All v u l (i + 1) image cache cache'
  all_more u cache' e = record {
    whole = e.whole;
    same = e.same ∙ a.same;
    here = λ j m. elim (ℕ_discrete j i) [ yes z ↦ rw z e.here | no z ↦ still (get_or l j 0) (a.here j (omega arith)) ];
    rest = λ x f. e.others x (f i (omega arith)) ∙ a.rest x (λ j m. f j (omega arith));
    count = omega (arith, e.count, ap (λ (x : Bool). cond {A = ℕ} x 0 1) as_was, a.count, news_more v.homes v.recorded l i);
    homes = λ j m. e.homes j (omega (arith, a.count)) ∙ a.homes j m;
    last = λ j m f. elim (ℕ_discrete j i) [
      | yes z ↦
          let y : is_recorded w (get_or l i 0) ≡ false = as_was ∙ ap (λ (x : ℕ). is_recorded v (get_or l x 0)) (sym z) ∙ f in
          ap (λ (x : ℕ). get_or u.homes (v.recorded + news v l x) 0) z ∙ ap (λ (x : ℕ). get_or u.homes x 0) (sym a.count) ∙ e.last y ∙ ap (λ (x : ℕ). get_or l x 0) (sym z)
      | no z ↦ e.homes (v.recorded + news v l j) (omega (arith, a.count, fewer j (omega arith) f)) ∙ a.last j (omega arith) f
    ];
    sb = e.sb ∙ a.sb;
    order = e.order ∙ a.order;
    ops = e.ops ∙ a.ops;
    slots = e.slots ∙ a.slots;
    live = e.live ∙ a.live;
  }
    where
      still : (x : ℕ) → is_recorded w x ≡ true → is_recorded u x ≡ true
      still x q = elim (ℕ_discrete x (get_or l i 0)) [ yes z ↦ rw z e.here | no z ↦ e.others x z ∙ q ]

      fewer : (j : ℕ) → j < i → is_recorded v (get_or l j 0) ≡ false → news v l j < news v l i
      fewer j m f = omega (arith, news_mono v.homes v.recorded l (j + 1) i (omega arith), news_more v.homes v.recorded l j, ap (λ (x : Bool). cond {A = ℕ} x 0 1) f)

-- one more
all_step : (v w u : Volume) (l image : List ℕ) (n i m : ℕ) (cache mid next : Bytes) → Touches v l n image → All v w l i image cache mid → i < n → m ≡ i + 1
    → u ≡ touched w (get_or l i 0) → next ≡ touched_bytes w (get_or l i 0) (bytes image) mid → All v u l m image cache next
all_step v w u l image n i m cache mid next g a h e x y =
    rw e (all_more v w l image n i cache mid g a h u next (rw (x, y) (ensured w (get_or l i 0) image (all_touch v w l image n i cache mid g a h) mid)))

pub suc_recorded : (v : Volume) (l : List ℕ) (i : ℕ) → record_all v l (suc i) ≡ touched (record_all v l i) (get_or l i 0)
unfolding record_all
suc_recorded v l i = refl

suc_bytes : (v : Volume) (l : List ℕ) (i : ℕ) (image cache : Bytes)
    → record_bytes v l (suc i) image cache ≡ touched_bytes (record_all v l i) (get_or l i 0) image (record_bytes v l i image cache)
unfolding record_bytes
suc_bytes v l i image cache = refl

module _ (v : Volume) (l image : List ℕ) (n : ℕ) (cache : Bytes) (g : Touches v l n image) where
  -- what recording the first i leaves
  pub recorded_all : (i : ℕ) → i ≤ n → All v (record_all v l i) l i image cache (record_bytes v l i (bytes image) cache)
  recorded_all zero h = rw (none_recorded v l, no_bytes v l (bytes image) cache) (all_none v l image cache g.whole)
  recorded_all (suc i) h =
      all_step v (record_all v l i) (record_all v l (suc i)) l image n i (suc i) cache (record_bytes v l i (bytes image) cache) (record_bytes v l (suc i) (bytes image) cache)
      g (recorded_all i (omega arith)) (omega arith) (omega arith) (suc_recorded v l i) (suc_bytes v l i (bytes image) cache)

  -- the next one may be touched
  pub next_touch : (i : ℕ) → i < n → Touch (record_all v l i) (get_or l i 0) image
  next_touch i h = all_touch v (record_all v l i) l image n i cache (record_bytes v l i (bytes image) cache) g (recorded_all i (omega arith)) h

  -- all of them: whole, seen as before, each in a buffer
  pub all_recorded : All v (record_all v l n) l n image cache (record_bytes v l n (bytes image) cache)
  all_recorded = recorded_all n (omega arith)

  pub all_held : (i : ℕ) → i < n → buffer_of (record_all v l n).table.blocks (record_all v l n).table.counts (get_or l i 0) < 30
  all_held i h =
      let a = all_recorded in
      recorded_below (record_all v l n).table.blocks (record_all v l n).table.counts (record_all v l n).homes (record_all v l n).recorded (record_all v l n).sb.inodestart (record_all v l n).sb.size a.whole.buffered (get_or l i 0) (a.here i h)
