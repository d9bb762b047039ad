-- The loop that records: what its arrays are after i blocks, and one turn of it. Assumes nothing.
use Rattle.std.specs.Prelude.{◌≡◌, Bool, true, false, cond, List, ℕ, ◌+◌, ◌*◌, ◌≤◌, ◌<◌, min, get_or, length, set, leb}
use Rattle.std.proofs.Common.{sym, ap, ◌∙◌, arith}
use Rattle.base.specs.Bytes.{Bytes, bytes, put, block}
use Rattle.base.specs.Decide.{Decides, alike, le_decides}
use Rattle.bio.specs.Among.{among}
use Rattle.bio.specs.Order.{least_recent}
use Rattle.bio.specs.declared.Table.{Table}
use Rattle.cache.specs.Tables.{buffer_with, chosen, chosen_own, chosen_new, holding}
use Rattle.state.specs.declared.Volume.{Volume}
use Rattle.state.specs.Given.{whole_length, whole_numbers}
use Rattle.recording.specs.Record.{is_recorded, with_block, with_bytes, record_all, record_bytes, Counted, Room, Touches}
use Rattle.recording.specs.One.{chose}
use Rattle.recording.specs.All.{Touch, recordable, touched_old, touched_new, bytes_old, bytes_new, none_recorded, one_more, no_bytes, more_bytes, next_touch, recorded_all, news-none, news_more}

-- ---- the buffer

pub choose_own : (t : Table) (b f : ℕ) → f ≡ buffer_with t b → f < 30 → f ≡ chosen t b
choose_own t b f e h = e ∙ sym (chosen_own t b (rw e at h))

pub choose_new : (t : Table) (b f r : ℕ) → f ≡ buffer_with t b → 30 ≤ f → r ≡ least_recent t.order t.counts → r ≡ chosen t b
choose_new t b f r e h z = z ∙ sym (chosen_new t b (rw e at h))

-- ---- counting

module _ (homes : List ℕ) (r : ℕ) (l : List ℕ) (i news : ℕ) (h : Counted news homes r l i) where
  pub counted_old : among homes r (get_or l i 0) ≡ true → Counted news homes r l (i + 1)
  counted_old e = record { is = omega (arith, h.is, news_more homes r l i, ap (λ (x : Bool). cond {A = ℕ} x 0 1) e); few = omega (arith, h.few) }

  pub counted_new : among homes r (get_or l i 0) ≡ false → Counted (news + 1) homes r l (i + 1)
  counted_new e = record { is = omega (arith, h.is, news_more homes r l i, ap (λ (x : Bool). cond {A = ℕ} x 0 1) e); few = omega (arith, h.few) }

pub counted_none : (homes : List ℕ) (r : ℕ) (l : List ℕ) → Counted 0 homes r l 0
counted_none homes r l = record { is = omega (arith, news-none homes r l); few = omega arith }

pub room_decides : (homes : List ℕ) (r nlog : ℕ) (l : List ℕ) (n news small : ℕ) → Counted news homes r l n → small ≡ min 30 nlog
    → Decides (leb (r + news + 2) small) (Room homes r nlog l n)
room_decides homes r nlog l n news small c e =
    alike (λ h. record { fits = omega (arith, c.is) }) (λ g. omega (arith, c.is, g.fits)) (le_decides (r + news + 2) small)

-- ---- the state after the first i

pub record At (v w : Volume) (l : List ℕ) (i : ℕ) (image start : Bytes) (cache : List ℕ) : Type 0 where
  pub state : w ≡ record_all v l i
  pub memory : bytes cache ≡ record_bytes v l i image start
  pub long : length cache ≡ 30720

pub at_none : (v : Volume) (l : List ℕ) (image : Bytes) (cache : List ℕ) → length cache ≡ 30720 → At v v l 0 image (bytes cache) cache
at_none v l image cache h = record { state = sym (none_recorded v l); memory = sym (no_bytes v l image (bytes cache)); long = h }

-- block b recorded in buffer k
abbrev pub in_buffer : Volume → ℕ → ℕ → Volume
in_buffer w k b = record w { table = holding w.table k b; homes = set w.homes w.recorded b; recorded = w.recorded + 1 }

-- what is known of a block that is about to be recorded in buffer k
pub record Ready (w : Volume) (b k : ℕ) (image : List ℕ) : Type 0 where
  pub below : k < 30
  pub free : get_or w.table.counts k 0 ≡ 0
  pub few : w.recorded < 30
  pub inside : b * 1024 + 1024 ≤ length image
  pub small : b ≤ 8191

ready : (w : Volume) (b k : ℕ) (image : List ℕ) → Touch w b image → is_recorded w b ≡ false → k ≡ chosen w.table b → Ready w b k image
ready w b k image t e z =
    let c = chose w b image (recordable w b image t e) in
    record {
      below = omega (arith, c.below);
      free = rw z c.free;
      few = omega (arith, t.room);
      inside = omega (arith, whole_length w image t.whole, t.high);
      small = omega (arith, t.high, (whole_numbers w image t.whole).size_most);
    }

module _ (v w : Volume) (l image : List ℕ) (n i : ℕ) (start : Bytes) (cache : List ℕ)
    (g : Touches v l n image) (a : At v w l i (bytes image) start cache) (h : i < n) where
  pub at_ready : (k : ℕ) → is_recorded w (get_or l i 0) ≡ false → k ≡ chosen w.table (get_or l i 0) → Ready w (get_or l i 0) k image
  at_ready k = ready w (get_or l i 0) k image (rw a.state (next_touch v l image n start g i h))

  -- a recorded block
  pub at_old : is_recorded w (get_or l i 0) ≡ true → At v w l (i + 1) (bytes image) start cache
  at_old e = record {
    state = a.state ∙ sym (one_more v l i ∙ touched_old (record_all v l i) (get_or l i 0) (rw a.state at e));
    memory = a.memory ∙ sym (more_bytes v l i (bytes image) start ∙ bytes_old (record_all v l i) (get_or l i 0) (bytes image) (record_bytes v l i (bytes image) start) (rw a.state at e));
    long = a.long;
  }

  -- any other, in buffer k
  pub at_new : (k : ℕ) (cache' : List ℕ) → is_recorded w (get_or l i 0) ≡ false → k ≡ chosen w.table (get_or l i 0)
      → bytes cache' ≡ put (bytes cache) (k * 1024) 1024 (block (bytes image) (get_or l i 0)) → length cache' ≡ 30720
      → At v (in_buffer w k (get_or l i 0)) l (i + 1) (bytes image) start cache'
  at_new k cache' e z m long = record {
    state = ap (λ (x : ℕ). in_buffer w x (get_or l i 0)) z ∙ ap (λ (x : Volume). with_block x (get_or l i 0)) a.state ∙ sym (one_more v l i ∙ touched_new (record_all v l i) (get_or l i 0) (rw a.state at e));
    memory =
        m ∙ ap (λ (x : ℕ). put (bytes cache) (x * 1024) 1024 (block (bytes image) (get_or l i 0))) z
        ∙ ap (λ (x : Bytes). with_bytes w (get_or l i 0) (bytes image) x) a.memory
        ∙ ap (λ (x : Volume). with_bytes x (get_or l i 0) (bytes image) (record_bytes v l i (bytes image) start)) a.state
        ∙ sym (more_bytes v l i (bytes image) start ∙ bytes_new (record_all v l i) (get_or l i 0) (bytes image) (record_bytes v l i (bytes image) start) (rw a.state at e));
    long = long;
  }

  pub at_count : w.recorded ≤ 28
  at_count = let r = (recorded_all v l image n start g i (omega arith)).whole in omega (arith, ap (λ (x : Volume). x.recorded) a.state, r.counts.room)
