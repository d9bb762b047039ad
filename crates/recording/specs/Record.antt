-- Recording, as definitions: the state and the cache that are left. A block that is recorded takes no room; any other takes a buffer as a get
-- does, is read from the image into it, has the count 1, and is the last home. Assumes nothing.
use Rattle.std.specs.Prelude.{◌≡◌, Bool, cond, List, ℕ, zero, suc, ◌+◌, ◌*◌, ◌≤◌, ◌<◌, min, get_or, set}
use Rattle.base.specs.Bytes.{Bytes, put, block}
use Rattle.bio.specs.Among.{among}
use Rattle.cache.specs.Tables.{chosen, gotten}
use Rattle.state.specs.declared.Volume.{Volume}
use Rattle.state.specs.Whole.{Whole}

-- block b is recorded
abbrev pub is_recorded : Volume → ℕ → Bool
is_recorded v b = among v.homes v.recorded b

-- block b recorded: the table after a get, and b the last home
abbrev pub with_block : Volume → ℕ → Volume
with_block v b = record {
  sb = v.sb;
  table = gotten v.table b;
  homes = set v.homes v.recorded b;
  recorded = v.recorded + 1;
  ops = v.ops;
  slots = v.slots;
  live = v.live;
}

-- and the cache: the block's bytes are read from the image
abbrev pub with_bytes : Volume → ℕ → Bytes → Bytes → Bytes
with_bytes v b image cache = put cache (chosen v.table b * 1024) 1024 (block image b)

-- block b recorded, if it was not
unfoldable pub touched : Volume → ℕ → Volume
touched v b = cond (is_recorded v b) v (with_block v b)

unfoldable pub touched_bytes : Volume → ℕ → Bytes → Bytes → Bytes
touched_bytes v b image cache = cond (is_recorded v b) cache (with_bytes v b image cache)

-- the first n of a list recorded, one after the other
unfoldable pub record_all : Volume → List ℕ → ℕ → Volume
record_all v l zero = v
record_all v l (suc n) = touched (record_all v l n) (get_or l n 0)

unfoldable pub record_bytes : Volume → List ℕ → ℕ → Bytes → Bytes → Bytes
record_bytes v l zero image cache = cache
record_bytes v l (suc n) image cache = touched_bytes (record_all v l n) (get_or l n 0) image (record_bytes v l n image cache)

-- how many of the first n of a list are not among the first r homes
unfoldable pub news_of : List ℕ → ℕ → List ℕ → ℕ → ℕ
news_of homes r l zero = 0
news_of homes r l (suc n) = news_of homes r l n + cond (among homes r (get_or l n 0)) 0 1

abbrev pub news : Volume → List ℕ → ℕ → ℕ
news v l n = news_of v.homes v.recorded l n

-- there is room in the log for those that are not recorded
pub record Room (homes : List ℕ) (r nlog : ℕ) (l : List ℕ) (n : ℕ) : Type 0 where
  pub fits : r + news_of homes r l n + 2 ≤ min 30 nlog

abbrev pub HasRoom : Volume → List ℕ → ℕ → Type 0
HasRoom v l n = Room v.homes v.recorded v.sb.nlog l n

-- the first n of a list may be recorded: an operation is open, they ascend, lie past the log, and have room
pub record Touches (v : Volume) (l : List ℕ) (n : ℕ) (image : List ℕ) : Type 0 where
  pub whole : Whole v image
  pub ops : v.ops ≡ 0 → ⊥
  pub up : (i j : ℕ) → i < j → j < n → get_or l i 0 < get_or l j 0
  pub low : (i : ℕ) → i < n → v.sb.inodestart ≤ get_or l i 0
  pub high : (i : ℕ) → i < n → get_or l i 0 < v.sb.size
  pub room : HasRoom v l n

-- what recording leaves
pub record Recorded (v : Volume) (l : List ℕ) (n : ℕ) (image cache : Bytes) (r : Volume) (cache' : Bytes) : Type 0 where
  pub state : r ≡ record_all v l n
  pub memory : cache' ≡ record_bytes v l n image cache

-- what counting them gives
pub record Counted (r : ℕ) (homes : List ℕ) (recorded : ℕ) (l : List ℕ) (n : ℕ) : Type 0 where
  pub is : r ≡ news_of homes recorded l n
  pub few : r ≤ n
