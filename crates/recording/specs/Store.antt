-- A change in the buffer of a recorded block is that change of what is seen. Assumes nothing.
use Rattle.std.specs.Prelude.{◌≡◌, List, ℕ, ◌+◌, ◌*◌, ◌≤◌, ◌<◌, length}
use Rattle.base.specs.Bytes.{Bytes, put}
use Rattle.bio.specs.Seen.{seen, buffer_of, seen-put}

-- n bytes at byte off of block b, which a buffer holds, may be changed
pub record Holds (blocks counts : List ℕ) (cache : List ℕ) (b off n : ℕ) : Type 0 where
  pub below : buffer_of blocks counts b < 30
  pub inside : off + n ≤ 1024
  pub memory : length cache ≡ 30720

-- what is seen has changed by exactly that, whatever the image
pub record Changed (blocks counts : List ℕ) (cache cache' : Bytes) (b off n : ℕ) (f : Bytes) : Type 0 where
  pub seen_is : (image : Bytes) → seen blocks counts cache' image ≡ put (seen blocks counts cache image) (b * 1024 + off) n f

-- a write there into the cache is that change
pub changed : (blocks counts : List ℕ) (b off n at : ℕ) (f cache cache' : Bytes) → at ≡ buffer_of blocks counts b * 1024 + off → buffer_of blocks counts b < 30 → off + n ≤ 1024
    → cache' ≡ put cache at n f → Changed blocks counts cache cache' b off n f
changed blocks counts b off n at f cache cache' e h l c = record { seen_is = λ image. rw (c, e) (seen-put blocks counts cache image b off n f h l) }
