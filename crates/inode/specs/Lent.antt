-- What the functions inside a call are lent, and the Disk that is seen through it. Assumes nothing.
use Rattle.std.specs.Prelude.{◌≡◌, List, ℕ, ◌*◌, length}
use Rattle.base.specs.Bytes.{bytes}
use Rattle.superblock.specs.declared.Super.{Super}
use Rattle.superblock.specs.Geometry.{Good, GoodNumbers, super_of}
use Rattle.superblock.specs.Disk.{Disk, disk}
use Rattle.bio.specs.Seen.{seen}
use Rattle.bio.specs.Memory.{memory}
use Rattle.bio.specs.declared.Seen.{Seen}

-- the numbers are good and the image's, and the cache has its 30 buffers: what a call has tested before it reads anything
pub record Lent (s : Super) (image cache : List ℕ) : Type 0 where
  pub numbers : GoodNumbers s
  pub card : length image ≡ s.size * 1024
  pub buffers : length cache ≡ 30720

-- the Disk that is seen through a buffer table: its blocks and counts, the cache and the image
abbrev pub disk_seen : Super → List ℕ → List ℕ → List ℕ → List ℕ → Disk
disk_seen s blocks counts cache image = disk s (seen blocks counts (bytes cache) (bytes image))

abbrev pub disk_by : Super → Seen → Disk
disk_by s card = disk s (memory card)

-- so it is where a good card's numbers are kept and the cache has its length
pub lent : (s : Super) (image cache : List ℕ) → Good image → s ≡ super_of (bytes image) → length cache ≡ 30720 → Lent s image cache
lent s image cache good same h = record { numbers = rw same good.numbers; card = rw same good.whole; buffers = h }
